-- Functions changed at one place. Assumes nothing.
use Rattle.std.proofs.Common.{◌≡◌, ℕ, eqb, ◌≢◌, ◌⊎◌, refl, inl, inr}
use Rattle.std.proofs.lemmas.Bool.{cases_eq, cond-true, cond-false, eq-eqb, ne_eqb}
use Rattle.model.specs.Docket.{at}

module _ {A : Type 0} (f : ℕ → A) (k : ℕ) (v : A) where
  pub at_same : at f k v k ≡ v
  at_same = cond-true (eqb k k) v (f k) (eq-eqb k k refl)

  pub at_other : (j : ℕ) → j ≢ k → at f k v j ≡ f j
  at_other j other = cond-false (eqb j k) v (f j) (ne_eqb j k other)

  pub at_cases : (j : ℕ) → ((j ≡ k) × (at f k v j ≡ v)) ⊎ ((j ≢ k) × (at f k v j ≡ f j))
  at_cases j = elim (cases_eq j k) [ inl e ↦ inl (e, cond-true (eqb j k) v (f j) (eq-eqb j k e)) | inr other ↦ inr (other, at_other j other) ]
