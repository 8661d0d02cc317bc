-- Sums and counts of a list's items, read by place. Assumes nothing.
use Rattle.std.proofs.Common.{◌≡◌, ℕ, zero, suc, ◌+◌, ◌<◌, ◌≤◌, Bool, true, false, cond, List, [], ◌∷◌, length, get_or, refl, sym, ap, ◌∙◌, arith}
use Rattle.std.proofs.lemmas.List.Sums.{sum_by-cons}
use Rattle.std.specs.List.{filter, range_with_len, sum_by}
use Rattle.model.specs.Orders.{sum_to, count_true}

sum_first : (f : ℕ → ℕ) (n : ℕ) → sum_to (suc n) f ≡ f 0 + sum_to n (λ k. f (suc k))
sum_first f zero = refl
sum_first f (suc n) = let rest : sum_to (suc n) f ≡ f 0 + sum_to n (λ k. f (suc k)) = sum_first f n in omega arith

pub sum_listed : {X : Type 0} (h : X → ℕ) (xs : List X) (d : X) → sum_by h xs ≡ sum_to (length xs) (λ k. h (get_or xs k d))
sum_listed h [] d = refl
sum_listed h (x ∷ xs) d = sum_by-cons h x xs ∙ ap (λ n. h x + n) (sum_listed h xs d) ∙ sym (sum_first (λ k. h (get_or (x ∷ xs) k d)) (length xs))

-- the true places of a mask, counted from a on
pub count_listed : (mask : List Bool) (test : ℕ → Bool) (a : ℕ) → ((k : ℕ) → k < length mask → test (a + k) ≡ get_or mask k false) → length (filter test (range_with_len a (length mask))) ≡ count_true mask
count_listed [] test a same = refl
count_listed (b ∷ bs) test a same =
    by b (ap test {x = a} {y = a + 0} (omega arith) ∙ same 0 (omega arith))
    (count_listed bs test (a + 1) (λ k below. ap test {x = a + 1 + k} {y = a + suc k} (omega arith) ∙ same (suc k) (omega arith)))
  where
    rest : List ℕ
    rest = filter test (range_with_len (a + 1) (length bs))

    by : (c : Bool) → test a ≡ c → length rest ≡ count_true bs → length (cond (test a) (a ∷ rest) rest) ≡ cond c 1 0 + count_true bs
    by true e h = ap (λ t. length (cond t (a ∷ rest) rest)) e ∙ omega arith
    by false e h = ap (λ t. length (cond t (a ∷ rest) rest)) e ∙ omega arith

pub count_small : (mask : List Bool) → count_true mask ≤ length mask
count_small [] = omega arith
count_small (b ∷ bs) = let rest : count_true bs ≤ length bs = count_small bs in grind arith
