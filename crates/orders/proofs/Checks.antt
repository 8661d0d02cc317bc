-- What the tests of a list say of the list as a whole. Assumes nothing.
use Rattle.std.proofs.Common.{◌≡◌, ℕ, zero, suc, ◌+◌, ◌<◌, ◌≤◌, Bool, true, false, ◌&&◌, ltb, leb, List, [], ◌∷◌, length, get_or, refl, sym, ap, ◌∙◌, arith}
use native.Mathlib.Numerals.{unary_clauses}
use Rattle.std.specs.List.{IsAllAdjacentAnswer, list_all}
use Rattle.std.proofs.Math.Bool.{and-false}
use Rattle.std.proofs.lemmas.Bool.{le-leb}
use Rattle.std.proofs.lemmas.Bool.Decides.{nat_tests}
use Rattle.orders.specs.Ascending.{ascending, ascends_from}
use Rattle.orders.specs.Lists.{all_below}

pub below_as_all : (count : ℕ) (xs : List ℕ) → list_all (λ x. ltb x count) xs ≡ all_below count xs
below_as_all count [] = refl
below_as_all count (x ∷ xs) = ap (λ b. ltb x count && b) (below_as_all count xs)

-- from `least` on each number is above the one before it
rises : (least x : ℕ) (xs : List ℕ) → least ≤ x → ((k d : ℕ) → k + 1 < length (x ∷ xs) → true ≡ ltb (get_or (x ∷ xs) k d) (get_or (x ∷ xs) (k + 1) d)) → ascends_from least (x ∷ xs) ≡ true
rises least x [] above each = ap (λ b. b && true) (le-leb least x above)
rises least x (y ∷ ys) above each =
    let first : true ≡ ltb x y = each 0 0 (omega arith) in
    let next : suc x ≤ y = grind (arith, nat_tests) in
    ap (λ b. b && ascends_from (suc x) (y ∷ ys)) (le-leb least x above)
    ∙ rises (suc x) y ys next (λ k d within. simp unary_clauses (simp unary_clauses at (each (suc k) d (omega arith))))

-- somewhere a number is not below the next
falls : (least : ℕ) (xs : List ℕ) (k : ℕ) → k + 1 < length xs → false ≡ ltb (get_or xs k 0) (get_or xs (k + 1) 0) → ascends_from least xs ≡ false
falls least [] k within under = absurd (omega arith)
falls least (x ∷ []) k within under = absurd (omega arith)
falls least (x ∷ y ∷ ys) zero within under =
    ap (λ b. leb least x && (b && ascends_from (suc y) ys)) (sym under) ∙ and-false (leb least x)
falls least (x ∷ y ∷ ys) (suc k) within under =
    let later : ascends_from (suc x) (y ∷ ys) ≡ false = falls (suc x) (y ∷ ys) k (omega arith) (simp unary_clauses (simp unary_clauses at under)) in
    ap (λ b. leb least x && b) later ∙ and-false (leb least x)

pub ascends_stepwise : (xs : List ℕ) (answer : Bool) → IsAllAdjacentAnswer (λ x y b. b ≡ ltb x y) xs answer → answer ≡ ascending xs
ascends_stepwise [] true steps = refl
ascends_stepwise (x ∷ xs) true steps = sym (rises 0 x xs (omega arith) steps)
ascends_stepwise xs false steps = sym (falls 0 xs steps.0 steps.1 (steps.2 0))
