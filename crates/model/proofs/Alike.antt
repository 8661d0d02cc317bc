-- A well opened register starts with the same copy at every machine. Assumes nothing.
use Rattle.std.proofs.Common.{◌≡◌, ℕ, ◌<◌, ◌≤◌, min, true, List, [], ◌∷◌, length, subst, arith}
use Rattle.std.proofs.lemmas.List.{ext_get_or}
use Rattle.std.proofs.lemmas.Bool.{eqb-true, or_parts, not-false, ltb-false}
use Rattle.stores.specs.Rows.{StoreState, place_count, store_at}
use Rattle.model.specs.Checks.{first, all_to}
use Rattle.model.specs.Opening.{same_counts, same_value, same_values, wrong_machine_count, wrong_object_counts, copies_differ, opening_number}
use Rattle.model.proofs.Counts.{first_passes, all_to_each}

module _ (stores : List StoreState) (well : opening_number stores ≡ 0) where
  after_machines : first (wrong_object_counts stores ∷ copies_differ stores ∷ []) ≡ 0
  after_machines = (first_passes (wrong_machine_count stores) (wrong_object_counts stores ∷ copies_differ stores ∷ []) (λ e. omega arith) well).1

  pub some_machine : 0 < place_count stores
  some_machine =
      let low : 1 ≤ place_count stores = ltb-false (place_count stores) 1 (or_parts _ _ (first_passes (wrong_machine_count stores) (wrong_object_counts stores ∷ copies_differ stores ∷ []) (λ e. omega arith) well).0).0 in
      omega arith

  -- none is left out
  pub all_machines : min 8 (place_count stores) ≡ place_count stores
  all_machines =
      let high : place_count stores ≤ 8 = ltb-false 8 (place_count stores) (or_parts _ _ (first_passes (wrong_machine_count stores) (wrong_object_counts stores ∷ copies_differ stores ∷ []) (λ e. omega arith) well).0).1 in
      small (place_count stores) high
    where
      small : (k : ℕ) → k ≤ 8 → min 8 k ≡ k
      small k le = omega arith

  counts_agree : all_to (place_count stores) (same_counts stores) ≡ true
  counts_agree = not-false _ (or_parts _ _ (first_passes (wrong_object_counts stores) (copies_differ stores ∷ []) (λ e. omega arith) after_machines).0).1

  copies_agree : all_to (place_count stores) (same_values stores) ≡ true
  copies_agree =
      let last = (first_passes (wrong_object_counts stores) (copies_differ stores ∷ []) (λ e. omega arith) after_machines).1 in
      not-false _ (first_passes (copies_differ stores) [] (λ e. omega arith) last).0

  pub alike : (s : ℕ) → s < place_count stores → (store_at stores s).values ≡ (store_at stores 0).values
  alike s within =
      let long : length (store_at stores s).values ≡ length (store_at stores 0).values = eqb-true _ _ (all_to_each (place_count stores) (same_counts stores) counts_agree s within) in
      let each = all_to_each (place_count stores) (same_values stores) copies_agree s within in
      ext_get_or 0 _ _ long
      (λ o below. eqb-true _ _ (all_to_each (length (store_at stores 0).values) (same_value stores s) each o (subst (λ (n : ℕ). o < n) long below)))
