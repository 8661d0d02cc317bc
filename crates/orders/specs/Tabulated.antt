-- A list made from a function of the position: what stands at a place, and 0 or false past the end. Assumes nothing.
use Rattle.std.specs.Prelude.{◌≡◌, ℕ, ◌^◌, ◌<◌, ◌≤◌, Bool, false, cond, List, map, length, nat_lt, slice_index, slice_index_or}
use Rattle.std.proofs.Common.{sym, ◌∙◌, ⊎_elim, arith}
use Rattle.std.specs.List.{range_with_len}
use Rattle.std.proofs.lemmas.List.FromFn.{get_or-map-range_with_len, length-map-range_with_len}
use Rattle.std.proofs.lemmas.List.{get_or_past}
use Rattle.std.proofs.lemmas.Bool.{cases_lt, cond_both, lt-ltb, le-ltb, cond-true, cond-false}

pub tabulated_at : {X : Type 0} (f : ℕ → X) (n p : ℕ) (d : X) → slice_index_or (map f (range_with_len 0 n)) p d ≡ cond (nat_lt p n) (f p) d
tabulated_at f n p d =
    ⊎_elim
    (λ (h : p < n). get_or-map-range_with_len f 0 n p p d h (omega arith) ∙ sym (cond-true (nat_lt p n) (f p) d (lt-ltb p n h)))
    (λ (h : n ≤ p). get_or_past (map f (range_with_len 0 n)) p d (omega (arith, length-map-range_with_len f 0 n)) ∙ sym (cond-false (nat_lt p n) (f p) d (le-ltb p n h)))
    (cases_lt p n)

-- below the end stands what the function gives
pub tabulated_below : {X : Type 0} (f : ℕ → X) (n p : ℕ) (d : X) → p < n → slice_index_or (map f (range_with_len 0 n)) p d ≡ f p
tabulated_below f n p d below = get_or-map-range_with_len f 0 n p p d below (omega arith)

-- new values keep the old one wherever the mask is false, if each does where its position is not written
pub tabulated_keeps : (olds : List ℕ) (written : ℕ → Bool) (value : ℕ → ℕ) → ((p : ℕ) → written p ≡ false → value p ≡ slice_index olds p) → (p : ℕ) → slice_index_or (map written (range_with_len 0 (length olds))) p false ≡ false → slice_index (map value (range_with_len 0 (length olds))) p ≡ slice_index olds p
tabulated_keeps olds written value stays p unwritten =
    ⊎_elim
    (λ (h : p < length olds).
    tabulated_below value (length olds) p 0 h
    ∙ stays p (sym (tabulated_below written (length olds) p false h) ∙ unwritten))
    (λ (h : length olds ≤ p).
    get_or_past (map value (range_with_len 0 (length olds))) p 0 (omega (arith, length-map-range_with_len value 0 (length olds)))
    ∙ sym (get_or_past olds p 0 h))
    (cases_lt p (length olds))

-- new values fit if each does at its position
pub tabulated_fits : (value : ℕ → ℕ) (n : ℕ) → ((p : ℕ) → value p < 2 ^ 32) → (p : ℕ) → slice_index (map value (range_with_len 0 n)) p < 2 ^ 32
tabulated_fits value n fits p =
    let there : cond (nat_lt p n) (value p) 0 < 2 ^ 32 = cond_both (nat_lt p n) (value p) 0 (λ v. v < 2 ^ 32) (λ _. fits p) (λ _. omega arith) in
    rw (tabulated_at value n p 0) there
