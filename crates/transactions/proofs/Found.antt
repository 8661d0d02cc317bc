-- Searches of a list, read by place. Assumes nothing.
use Rattle.std.proofs.Common.{◌≡◌, ℕ, ◌<◌, Bool, true, false, ◌||◌, eqb, Some, None, Option, MatchBool, MatchOption, List, [], ◌∷◌, length, get_or, refl, ap, ◌∙◌, arith}
use Rattle.std.proofs.lemmas.Bool.Decides.{nat_tests}
use Rattle.std.specs.List.{list_any, AllWithin, HoldsAt}
use Rattle.model.specs.Orders.{listed, overlap, any_to}
use Rattle.model.specs.Questions.{lowest}
use Rattle.model.proofs.Ranges.{any_answer, lowest_first}

module _ {X : Type 0} (test : X → Bool) (xs : List X) (d : X) (n : ℕ) (long : length xs ≡ n) where
  pub any_listed : (r : Bool) → MatchBool r ((k : ℕ) × (k < length xs) × HoldsAt (λ x. test x ≡ true) xs k) (AllWithin (λ x. test x ≡ false) xs 0 (length xs)) → r ≡ any_to n (λ k. test (get_or xs k d))
  any_listed true h = any_answer n (λ k. test (get_or xs k d)) true (h.0, omega (arith, h.1), h.2 d)
  any_listed false h = any_answer n (λ k. test (get_or xs k d)) false (λ k below. h k d (omega arith) (omega arith))

  pub lowest_listed : (r : Option ℕ) → MatchOption r (AllWithin (λ x. test x ≡ false) xs 0 (length xs)) (λ i. (i < length xs) × HoldsAt (λ x. test x ≡ true) xs i × AllWithin (λ x. test x ≡ false) xs 0 i)
      → r ≡ lowest n (λ k. test (get_or xs k d))
  lowest_listed None h = lowest_first n (λ k. test (get_or xs k d)) None (λ k below. h k d (omega arith) (omega arith))
  lowest_listed (Some i) h = lowest_first n (λ k. test (get_or xs k d)) (Some i) (omega (arith, h.0), h.1 d, λ k below. h.2 k d (omega arith) below)

same_turned : (a b : ℕ) → eqb a b ≡ eqb b a
same_turned a b = grind (arith, nat_tests)

-- what `contains` answers
pub listed_any : (o : ℕ) (xs : List ℕ) → listed o xs ≡ list_any (λ x. eqb x o) xs
listed_any o [] = refl
listed_any o (x ∷ xs) = ap (λ b. b || listed o xs) (same_turned o x) ∙ ap (λ b. eqb x o || b) (listed_any o xs)

pub overlap_any : (xs ys : List ℕ) → list_any (λ x. listed x ys) xs ≡ overlap xs ys
overlap_any [] ys = refl
overlap_any (x ∷ xs) ys = ap (λ b. listed x ys || b) (overlap_any xs ys)
