-- Walking over the clauses of an order, and what the clause for a position settles. Assumes nothing.
use Rattle.std.specs.Prelude.{◌≡◌, ℕ, ◌+◌, ◌/◌, ◌<◌, ◌≤◌, true, false, cond, not, ◌&&◌, List, [], ◌∷◌, length, drop, is_some, Some, Option, ◌≢◌}
use Rattle.std.proofs.Common.{ap, sym, ◌∙◌, arith}
use Rattle.std.proofs.lemmas.List.FromFn.{get_or-map-range_with_len, length-map-range_with_len}
use Rattle.std.proofs.lemmas.List.{at_drop_more, at_drop_all}
use Rattle.std.proofs.lemmas.Bool.{eq-eqb, ne_eqb}
use Rattle.orders.specs.declared.clauses.Clause.{Clause}
use Rattle.orders.specs.Assignments.{Settles, clause_at, clause_for, clause_lawful, clauses, clauses_lawful, targets_differ, value_after}
use Rattle.orders.specs.Tabulated.{tabulated_at}

pub clause_count : (order : List ℕ) → length (clauses order) ≡ length order / 6
clause_count order = length-map-range_with_len (clause_at order) 0 (length order / 6)

-- the clauses from a number on are the clause of that number and those after it
pub clauses_more : {Y : Type 0} (F : List Clause → Y) (order : List ℕ) (i : ℕ) → i < length order / 6 → F (drop i (clauses order)) ≡ F (clause_at order i ∷ drop (i + 1) (clauses order))
clauses_more F order i within =
    at_drop_more F (clauses order) i (clause_at order i) (omega (arith, clause_count order))
    ∙ ap (λ c. F (c ∷ drop (i + 1) (clauses order))) (get_or-map-range_with_len (clause_at order) 0 (length order / 6) i i (clause_at order i) within (omega arith))

pub clauses_all : {Y : Type 0} (F : List Clause → Y) (order : List ℕ) (i : ℕ) → length order / 6 ≤ i → F (drop i (clauses order)) ≡ F []
clauses_all F order i past = at_drop_all F (clauses order) i (omega (arith, clause_count order))

-- the search for a position's clause, at a clause that has the target and at one that has not
pub finds_here : (order : List ℕ) (i position : ℕ) → i < length order / 6 → (clause_at order i).target ≡ position → clause_for position (drop i (clauses order)) ≡ Some (clause_at order i)
finds_here order i position within same =
    clauses_more (clause_for position) order i within
    ∙ ap (λ b. cond b (Some (clause_at order i)) (clause_for position (drop (i + 1) (clauses order)))) (eq-eqb _ _ same)

pub finds_later : (order : List ℕ) (i position : ℕ) → i < length order / 6 → ((clause_at order i).target ≢ position) → clause_for position (drop (i + 1) (clauses order)) ≡ clause_for position (drop i (clauses order))
finds_later order i position within other =
    sym (clauses_more (clause_for position) order i within
    ∙ ap (λ b. cond b (Some (clause_at order i)) (clause_for position (drop (i + 1) (clauses order)))) (ne_eqb _ _ other))

-- a check of each clause in turn
pub lawful_passes : (n : ℕ) (order : List ℕ) (i : ℕ) → i < length order / 6 → clause_lawful n (clause_at order i) ≡ true → clauses_lawful n (drop (i + 1) (clauses order)) ≡ clauses_lawful n (drop i (clauses order))
lawful_passes n order i within holds =
    sym (clauses_more (clauses_lawful n) order i within ∙ ap (λ b. b && clauses_lawful n (drop (i + 1) (clauses order))) holds)

pub lawful_fails : (n : ℕ) (order : List ℕ) (i : ℕ) → i < length order / 6 → clause_lawful n (clause_at order i) ≡ false → clauses_lawful n (drop i (clauses order)) ≡ false
lawful_fails n order i within fails =
    clauses_more (clauses_lawful n) order i within ∙ ap (λ b. b && clauses_lawful n (drop (i + 1) (clauses order))) fails

pub differ_passes : (order : List ℕ) (i : ℕ) → i < length order / 6 → is_some (clause_for (clause_at order i).target (drop (i + 1) (clauses order))) ≡ false → targets_differ (drop (i + 1) (clauses order)) ≡ targets_differ (drop i (clauses order))
differ_passes order i within none =
    sym (clauses_more targets_differ order i within ∙ ap (λ b. not b && targets_differ (drop (i + 1) (clauses order))) none)

pub differ_fails : (order : List ℕ) (i : ℕ) → i < length order / 6 → is_some (clause_for (clause_at order i).target (drop (i + 1) (clauses order))) ≡ true → targets_differ (drop i (clauses order)) ≡ false
differ_fails order i within found =
    clauses_more targets_differ order i within ∙ ap (λ b. not b && targets_differ (drop (i + 1) (clauses order))) found

-- whether a later clause has the target of the clause just read
pub named_again : (order : List ℕ) (i : ℕ) (clause : Clause) (found : Option Clause) → clause ≡ clause_at order i → found ≡ clause_for clause.target (drop (i + 1) (clauses order)) → is_some (clause_for (clause_at order i).target (drop (i + 1) (clauses order))) ≡ is_some found
named_again order i clause found read search =
    ap (λ (c : Clause). is_some (clause_for c.target (drop (i + 1) (clauses order)))) (sym read) ∙ sym (ap (λ (o : Option Clause). is_some o) search)

pub settled : (order : List ℕ) (position : ℕ) → Settles order position (clause_for position (clauses order))
settled order position = record {
  written = λ n. tabulated_at (λ p. is_some (clause_for p (clauses order))) n position false;
  becomes = λ olds. tabulated_at (λ p. value_after olds p (clause_for p (clauses order))) (length olds) position 0;
}
