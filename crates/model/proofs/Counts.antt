-- Tests and sums over the numbers below a bound, and lists of checks. Assumes nothing.
use Rattle.std.proofs.Common.{◌≡◌, ℕ, zero, suc, ◌+◌, ◌<◌, ◌≤◌, Bool, true, false, ◌≢◌, List, ◌∷◌, sym, refl, ap, ◌∙◌, inl, inr, add-one, arith}
use Rattle.std.proofs.lemmas.Bool.{cases_Bool, cases_eq, both_ways, or_parts}
use Rattle.std.proofs.lemmas.Bool.Decides.{Decides-below_and}
use Rattle.model.specs.Checks.{Check, first, all_to}
use Rattle.model.specs.Orders.{any_to, sum_to}

pub all_to_each : (n : ℕ) (test : ℕ → Bool) → all_to n test ≡ true → (k : ℕ) → k < n → test k ≡ true
all_to_each n test = (Decides-below_and test (λ k. test k ≡ true) (λ m. all_to m test) (λ k. ((λ e. e), (λ e. e))) refl (λ _. refl) n).0

pub all_to_true : (n : ℕ) (test : ℕ → Bool) → ((k : ℕ) → k < n → test k ≡ true) → all_to n test ≡ true
all_to_true n test = (Decides-below_and test (λ k. test k ≡ true) (λ m. all_to m test) (λ k. ((λ e. e), (λ e. e))) refl (λ _. refl) n).1

pub any_to_none : (n : ℕ) (test : ℕ → Bool) → any_to n test ≡ false → (k : ℕ) → k < n → test k ≡ false
any_to_none zero test e k below = absurd (omega arith)
any_to_none (suc n) test e k below =
    elim (cases_eq k n) [
      | inl same ↦ ap test same ∙ (or_parts (test n) (any_to n test) e).0
      | inr other ↦ let less : k < n = omega arith in any_to_none n test (or_parts (test n) (any_to n test) e).1 k less
    ]

-- one number more, and a number that fails
pub passes_more : (test : ℕ → Bool) (k : ℕ) → all_to k test ≡ true → test k ≡ true → all_to (k + 1) test ≡ true
passes_more test k so_far here = ap (λ n. all_to n test) (add-one k) ∙ cc

pub fails_at : (n : ℕ) (test : ℕ → Bool) (k : ℕ) → k < n → test k ≡ false → false ≡ all_to n test
fails_at n test k within fails = elim (cases_Bool (all_to n test)) [
  | inl all ↦ absurd (both_ways (test k) fails (all_to_each n test all k within))
  | inr some ↦ sym some
]

-- where no check fails, the first does not, if its number is not 0
pub first_passes : (check : Check) (rest : List Check) → (check.0 ≡ 0 → ⊥) → first (check ∷ rest) ≡ 0 → (check.1 ≡ false) × (first rest ≡ 0)
first_passes (number, true) rest other h = absurd (other h)
first_passes (number, false) rest other h = (refl, h)

pub sum_mono : (n : ℕ) (f g : ℕ → ℕ) → ((k : ℕ) → k < n → f k ≤ g k) → sum_to n f ≤ sum_to n g
sum_mono zero f g each = omega arith
sum_mono (suc n) f g each =
    let here : f n ≤ g n = each n (omega arith) in
    let rest : sum_to n f ≤ sum_to n g = sum_mono n f g (λ k below. each k (omega arith)) in
    omega arith

pub sum_same : (n : ℕ) (f g : ℕ → ℕ) → ((k : ℕ) → k < n → f k ≡ g k) → sum_to n f ≡ sum_to n g
sum_same zero f g each = refl
sum_same (suc n) f g each =
    let here : f n ≡ g n = each n (omega arith) in
    let rest : sum_to n f ≡ sum_to n g = sum_same n f g (λ k below. each k (omega arith)) in
    omega arith

-- one term is another
pub sum_change : (n t : ℕ) (f g : ℕ → ℕ) → t < n → ((k : ℕ) → k ≢ t → f k ≡ g k) → sum_to n f + g t ≡ sum_to n g + f t
sum_change zero t f g below each = absurd (omega arith)
sum_change (suc n) t f g below each =
    elim (cases_eq t n) [
      | inl same ↦
          let rest : sum_to n f ≡ sum_to n g = sum_same n f g (λ k under. each k (λ e. omega arith)) in
          let ft : f t ≡ f n = ap f same in
          let gt : g t ≡ g n = ap g same in
          omega arith
      | inr other ↦
          let less : t < n = omega arith in
          let here : f n ≡ g n = each n (λ e. other (sym e)) in
          let rest : sum_to n f + g t ≡ sum_to n g + f t = sum_change n t f g less each in
          omega arith
    ]

pub sum_zero : (n : ℕ) → sum_to n (λ _. 0) ≡ 0
sum_zero zero = refl
sum_zero (suc n) = let rest : sum_to n (λ _. 0) ≡ 0 = sum_zero n in omega arith
