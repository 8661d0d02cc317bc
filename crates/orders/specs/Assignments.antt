-- Assignment orders: one to four clauses of six bytes, each for a position of its own. All of them read the old values. Assumes nothing.
use Rattle.std.specs.Prelude.{◌≡◌, ℕ, ◌+◌, ◌*◌, ◌/◌, min, Bool, true, false, cond, not, ◌&&◌, ◌||◌, List, [], ◌∷◌, map, length, is_some, Some, None, Option, ◌==◌, nat_le, nat_lt, slice_index, slice_index_or}
use Rattle.std.specs.List.{range_with_len}
use Rattle.orders.specs.declared.clauses.Change.{Change}
use Rattle.orders.specs.declared.clauses.Change.TheVariants.{Set, CopyOf, Add}
use Rattle.orders.specs.declared.clauses.Clause.{Clause}
use Rattle.orders.specs.Bytes.{number_at}
use Rattle.orders.specs.Rulebooks.{Rules}

-- None where no lawful clause has the form
abbrev pub change_of : (form number : ℕ) → Option Change
change_of form number =
    cond (form == 1) (Some (Set number))
    (cond (form == 2) (Some (CopyOf number))
    (cond (form == 3) (Some (Add number)) None))

-- a clause is a target, a form and a number of four bytes
abbrev pub clause_at : List ℕ → (index : ℕ) → Clause
clause_at order index = record {
  target = slice_index order (6 * index);
  change = change_of (slice_index order (6 * index + 1)) (number_at order (6 * index + 2));
}

-- the clause in six bytes of its own
abbrev pub clause_of : List ℕ → Clause
clause_of bytes = clause_at bytes 0

-- the whole clauses of an order
abbrev pub clauses : List ℕ → List Clause
clauses order = map (clause_at order) (range_with_len 0 (length order / 6))

abbrev pub change_lawful : (n : ℕ) → Option Change → Bool
change_lawful n None = false
change_lawful n (Some (Set number)) = nat_le number 999999999
change_lawful n (Some (CopyOf position)) = nat_lt position n
change_lawful n (Some (Add number)) = true

abbrev pub clause_lawful : (n : ℕ) → Clause → Bool
clause_lawful n clause = nat_lt clause.target n && change_lawful n clause.change

-- the first clause whose target is the position
abbrev pub clause_for : (position : ℕ) → List Clause → Option Clause
clause_for position [] = None
clause_for position (clause ∷ rest) = cond (clause.target == position) (Some clause) (clause_for position rest)

-- no later clause has the target of an earlier one
abbrev pub targets_differ : List Clause → Bool
targets_differ [] = true
targets_differ (clause ∷ rest) = not (is_some (clause_for clause.target rest)) && targets_differ rest

abbrev pub clauses_lawful : (n : ℕ) → List Clause → Bool
clauses_lawful n [] = true
clauses_lawful n (clause ∷ rest) = clause_lawful n clause && clauses_lawful n rest

abbrev pub length_lawful : ℕ → Bool
length_lawful bytes = bytes == 6 || bytes == 12 || bytes == 18 || bytes == 24

abbrev pub assignment_lawful : List ℕ → ℕ → Bool
assignment_lawful order n = length_lawful (length order) && clauses_lawful n (clauses order) && targets_differ (clauses order)

abbrev pub assignment_mask : List ℕ → ℕ → List Bool
assignment_mask order n = map (λ position. is_some (clause_for position (clauses order))) (range_with_len 0 n)

-- what a change makes of a position
abbrev pub changed : List ℕ → (position : ℕ) → Option Change → ℕ
changed olds position None = slice_index olds position
changed olds position (Some (Set number)) = number
changed olds position (Some (CopyOf from)) = slice_index olds from
changed olds position (Some (Add number)) = min (slice_index olds position + number) 999999999

-- what the clause for a position, if there is one, makes of it
abbrev pub value_after : List ℕ → (position : ℕ) → Option Clause → ℕ
value_after olds position None = slice_index olds position
value_after olds position (Some clause) = changed olds position clause.change

abbrev pub assignment_news : List ℕ → List ℕ → List ℕ
assignment_news order olds = map (λ position. value_after olds position (clause_for position (clauses order))) (range_with_len 0 (length olds))

abbrev pub assignment_rules : Rules
assignment_rules = record { lawful = assignment_lawful; mask = assignment_mask; news = assignment_news }

-- the clause found for a position settles whether it is written, and its new value
pub record Settles (order : List ℕ) (position : ℕ) (found : Option Clause) : Type 0 where
  pub written : (n : ℕ) → slice_index_or (assignment_mask order n) position false ≡ cond (nat_lt position n) (is_some found) false
  pub becomes : (olds : List ℕ) → slice_index (assignment_news order olds) position ≡ cond (nat_lt position (length olds)) (value_after olds position found) 0
