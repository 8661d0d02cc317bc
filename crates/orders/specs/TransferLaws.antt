-- Transfer orders keep the laws of a rulebook. Assumes nothing.
use Rattle.std.specs.Prelude.{◌≡◌, ℕ, ◌+◌, ◌^◌, ◌<◌, true, false, not, ◌&&◌, List, length, get_or, Some, None, Option, ◌==◌, nat_lt, slice_index, slice_index_or, refl}
use Rattle.std.proofs.Common.{ap, sym, ◌∙◌, arith}
use Rattle.std.proofs.lemmas.List.FromFn.{length-map-range_with_len}
use Rattle.std.proofs.lemmas.Bool.{and_parts, cond_both, cond-false, eq-eqb, eqb-true, ltb-true, or_left, or_parts, true≢false}
use Rattle.orders.specs.declared.movement.Movement.{Movement}
use Rattle.orders.specs.Rulebooks.{RulebookLaws}
use Rattle.orders.specs.Transfers.{MovementSettles, moved, movement_lawful, movement_of, movement_writes, transfer_lawful, transfer_mask, transfer_news, value_moved}
use Rattle.orders.specs.Tabulated.{tabulated_at, tabulated_below, tabulated_fits, tabulated_keeps}

pub movement_settles : (order : List ℕ) → MovementSettles order (movement_of order)
movement_settles order = record {
  stands = λ n. refl;
  written = λ n position. tabulated_at (λ p. movement_writes p (movement_of order)) n position false;
  becomes = λ olds position. tabulated_at (λ p. value_moved olds p (movement_of order)) (length olds) position 0;
}

-- a lawful movement writes its giver
writes_giver : (n : ℕ) (found : Option Movement) → movement_lawful n found ≡ true → (p : ℕ) × (p < n) × (movement_writes p found ≡ true)
writes_giver n None lawful = absurd (true≢false (sym lawful))
writes_giver n (Some m) lawful =
    let outer = (and_parts (nat_lt m.giver n && nat_lt m.taker n) (not (m.giver == m.taker)) lawful).0 in (
      m.giver,
      ltb-true m.giver n (and_parts (nat_lt m.giver n) (nat_lt m.taker n) outer).0,
      or_left (m.giver == m.giver) (m.giver == m.taker) (eq-eqb m.giver m.giver refl),
    )

writes_something : (order : List ℕ) (n : ℕ) → transfer_lawful order n ≡ true → (p : ℕ) × (p < n) × (slice_index_or (transfer_mask order n) p false ≡ true)
writes_something order n lawful =
    let found = writes_giver n (movement_of order) lawful in (
      found.0,
      found.1,
      tabulated_below (λ p. movement_writes p (movement_of order)) n found.0 false found.1 ∙ found.2,
    )

-- what is neither giver nor taker stays
stays : (olds : List ℕ) (position : ℕ) (found : Option Movement) → movement_writes position found ≡ false → value_moved olds position found ≡ slice_index olds position
stays olds position None unwritten = refl
stays olds position (Some m) unwritten =
    let parts = or_parts (position == m.giver) (position == m.taker) unwritten in
    cond-false (position == m.giver) _ _ parts.0 ∙ cond-false (position == m.taker) _ _ parts.1

taker_fits : (olds : List ℕ) (position : ℕ) (m : Movement) → slice_index olds position < 2 ^ 32 → position ≡ m.taker → slice_index olds position + moved olds m < 2 ^ 32
taker_fits olds position m fits same =
    let there : get_or olds position 0 ≡ get_or olds m.taker 0 = ap (λ p. slice_index olds p) same in omega arith

value_fits : (olds : List ℕ) (position : ℕ) (found : Option Movement) → slice_index olds position < 2 ^ 32 → value_moved olds position found < 2 ^ 32
value_fits olds position None fits = fits
value_fits olds position (Some m) fits =
    cond_both (position == m.giver) _ _ (λ v. v < 2 ^ 32)
    (λ _. omega arith)
    (λ _. cond_both (position == m.taker) _ _ (λ v. v < 2 ^ 32) (λ same. taker_fits olds position m fits (eqb-true position m.taker same)) (λ _. fits))

keeps_unwritten : (order olds : List ℕ) (p : ℕ) → slice_index_or (transfer_mask order (length olds)) p false ≡ false → slice_index (transfer_news order olds) p ≡ slice_index olds p
keeps_unwritten order olds = tabulated_keeps olds (λ p. movement_writes p (movement_of order)) (λ p. value_moved olds p (movement_of order)) (λ p. stays olds p (movement_of order))

news_fit : (order olds : List ℕ) → ((p : ℕ) → slice_index olds p < 2 ^ 32) → (p : ℕ) → slice_index (transfer_news order olds) p < 2 ^ 32
news_fit order olds fits = tabulated_fits (λ p. value_moved olds p (movement_of order)) (length olds) (λ p. value_fits olds p (movement_of order) (fits p))

pub transfer_laws : RulebookLaws transfer_lawful transfer_mask transfer_news
transfer_laws = record {
  mask_has_each_position = λ order n. length-map-range_with_len (λ p. movement_writes p (movement_of order)) 0 n;
  lawful_order_writes = writes_something;
  as_many_news_as_olds = λ order olds. length-map-range_with_len (λ p. value_moved olds p (movement_of order)) 0 (length olds);
  unwritten_keeps_its_value = λ order olds lawful. keeps_unwritten order olds;
  news_fit_where_olds_fit = λ order olds lawful. news_fit order olds;
}
