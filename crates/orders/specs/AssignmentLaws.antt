-- Assignment orders keep the laws of a rulebook. Assumes nothing.
use Rattle.std.specs.Prelude.{◌≡◌, ℕ, ◌^◌, ◌<◌, ◌≤◌, true, false, cond, ◌&&◌, List, [], ◌∷◌, length, is_some, Some, None, Option, ◌==◌, nat_lt, slice_index, slice_index_or, refl}
use Rattle.std.proofs.Common.{ap, ◌∙◌, arith}
use Rattle.std.proofs.lemmas.List.FromFn.{length-map-range_with_len}
use Rattle.std.proofs.lemmas.Bool.{and_parts, cond_both, eq-eqb, leb-true, ltb-true}
use Rattle.std.proofs.lemmas.Bool.Decides.{nat_tests}
use Rattle.orders.specs.declared.clauses.Change.{Change}
use Rattle.orders.specs.declared.clauses.Change.TheVariants.{Set, CopyOf, Add}
use Rattle.orders.specs.declared.clauses.Clause.{Clause}
use Rattle.orders.specs.Assignments.{assignment_lawful, assignment_mask, assignment_news, change_lawful, changed, clause_for, clause_lawful, clauses, clauses_lawful, length_lawful, targets_differ, value_after}
use Rattle.orders.specs.Rulebooks.{RulebookLaws}
use Rattle.orders.specs.Clausewise.{clause_count}
use Rattle.orders.specs.Tabulated.{tabulated_below, tabulated_fits, tabulated_keeps}

-- a lawful order has a clause, whose target it writes
some_target : (n : ℕ) (cs : List Clause) → 0 < length cs → clauses_lawful n cs ≡ true → (p : ℕ) × (p < n) × (is_some (clause_for p cs) ≡ true)
some_target n [] some lawful = absurd (omega arith)
some_target n (c ∷ cs) some lawful =
    let here = (and_parts (clause_lawful n c) (clauses_lawful n cs) lawful).0 in (
      c.target,
      ltb-true c.target n (and_parts (nat_lt c.target n) (change_lawful n c.change) here).0,
      ap (λ b. is_some (cond b (Some c) (clause_for c.target cs))) (eq-eqb c.target c.target refl),
    )

has_a_clause : (order : List ℕ) → length_lawful (length order) ≡ true → 0 < length (clauses order)
has_a_clause order lawful =
    let six : 6 ≤ length order = grind (arith, nat_tests) in omega (arith, clause_count order)

writes_something : (order : List ℕ) (n : ℕ) → assignment_lawful order n ≡ true → (p : ℕ) × (p < n) × (slice_index_or (assignment_mask order n) p false ≡ true)
writes_something order n lawful =
    let outer = (and_parts (length_lawful (length order) && clauses_lawful n (clauses order)) (targets_differ (clauses order)) lawful).0 in
    let parts = and_parts (length_lawful (length order)) (clauses_lawful n (clauses order)) outer in
    let found = some_target n (clauses order) (has_a_clause order parts.0) parts.1 in (
      found.0,
      found.1,
      tabulated_below (λ p. is_some (clause_for p (clauses order))) n found.0 false found.1 ∙ found.2,
    )

-- where no clause is found, the value stays
stays : (olds : List ℕ) (position : ℕ) (found : Option Clause) → is_some found ≡ false → value_after olds position found ≡ slice_index olds position
stays olds position None none = refl
stays olds position (Some c) none = cc

keeps_unwritten : (order olds : List ℕ) (p : ℕ) → slice_index_or (assignment_mask order (length olds)) p false ≡ false → slice_index (assignment_news order olds) p ≡ slice_index olds p
keeps_unwritten order olds = tabulated_keeps olds (λ p. is_some (clause_for p (clauses order))) (λ p. value_after olds p (clause_for p (clauses order))) (λ p. stays olds p (clause_for p (clauses order)))

change_fits : (n : ℕ) (olds : List ℕ) (position : ℕ) (change : Option Change) → ((p : ℕ) → slice_index olds p < 2 ^ 32) → change_lawful n change ≡ true → changed olds position change < 2 ^ 32
change_fits n olds position None fits lawful = fits position
change_fits n olds position (Some (Set number)) fits lawful = omega (arith, leb-true number 999999999 lawful)
change_fits n olds position (Some (CopyOf from)) fits lawful = fits from
change_fits n olds position (Some (Add number)) fits lawful = omega arith

value_fits : (n : ℕ) (olds : List ℕ) (position : ℕ) (cs : List Clause) → ((p : ℕ) → slice_index olds p < 2 ^ 32) → clauses_lawful n cs ≡ true → value_after olds position (clause_for position cs) < 2 ^ 32
value_fits n olds position [] fits lawful = fits position
value_fits n olds position (c ∷ cs) fits lawful =
    let parts = and_parts (clause_lawful n c) (clauses_lawful n cs) lawful in
    cond_both (c.target == position) (Some c) (clause_for position cs) (λ found. value_after olds position found < 2 ^ 32)
    (λ _. change_fits n olds position c.change fits (and_parts (nat_lt c.target n) (change_lawful n c.change) parts.0).1)
    (λ _. value_fits n olds position cs fits parts.1)

news_fit : (order olds : List ℕ) → assignment_lawful order (length olds) ≡ true → ((p : ℕ) → slice_index olds p < 2 ^ 32) → (p : ℕ) → slice_index (assignment_news order olds) p < 2 ^ 32
news_fit order olds lawful fits =
    let n = length olds in
    let outer = (and_parts (length_lawful (length order) && clauses_lawful n (clauses order)) (targets_differ (clauses order)) lawful).0 in
    let parts = and_parts (length_lawful (length order)) (clauses_lawful n (clauses order)) outer in
    tabulated_fits (λ p. value_after olds p (clause_for p (clauses order))) n (λ p. value_fits n olds p (clauses order) fits parts.1)

pub assignment_laws : RulebookLaws assignment_lawful assignment_mask assignment_news
assignment_laws = record {
  mask_has_each_position = λ order n. length-map-range_with_len (λ p. is_some (clause_for p (clauses order))) 0 n;
  lawful_order_writes = writes_something;
  as_many_news_as_olds = λ order olds. length-map-range_with_len (λ p. value_after olds p (clause_for p (clauses order))) 0 (length olds);
  unwritten_keeps_its_value = λ order olds lawful. keeps_unwritten order olds;
  news_fit_where_olds_fit = news_fit;
}
