-- What searches of the numbers below a bound answer. Assumes nothing.
use Rattle.std.proofs.Common.{◌≡◌, ℕ, zero, suc, ◌+◌, ◌-◌, ◌<◌, Bool, true, false, cond, not, ◌||◌, Some, None, Option, IfSome, IsSomeAnd, MatchOption, MatchBool, ◌⊎◌, sym, refl, ap, subst, ◌∙◌, inl, inr, arith}
use denote.Param.Members.{Mut, Called}
use Rattle.std.specs.Iterator.Runs.{AllItemsGive, AnyItemGives, CallKeepsClosure, EveryRun, Run, SomeRun, Trigger}
use Rattle.std.specs.Prelude.{IsTrue}
use Rattle.std.specs.declared.ops.Range.{Range}
use Rattle.std.specs.Option.{option_map}
use Rattle.std.proofs.iter.Yields.{nat_range_steps}
use Rattle.std.proofs.iter.runs.Sources.{range_runs}
use Rattle.std.proofs.lemmas.Bool.{cases_Bool, cases_eq, cases_lt, both_ways, not-false, not-true}
use Rattle.model.specs.Checks.{all_to}
use Rattle.model.specs.Orders.{any_to}
use Rattle.model.specs.Questions.{lowest}
use Rattle.model.proofs.Counts.{all_to_each, all_to_true, any_to_none, fails_at}

-- no number below n passes the test, or this one does and none below it
abbrev pub First : ℕ → (ℕ → Bool) → Option ℕ → Type 0
First n test found = MatchOption found ((k : ℕ) → k < n → test k ≡ false) (λ i. (i < n) × (test i ≡ true) × ((k : ℕ) → k < i → test k ≡ false))

first_lowest : (n : ℕ) (test : ℕ → Bool) → First n test (lowest n test)
first_lowest zero test = λ k below. absurd (omega arith)
first_lowest (suc n) test = by (lowest n test) (first_lowest n test) (test n) refl
  where
    by : (found : Option ℕ) → First n test found → (here : Bool) → test n ≡ here → First (suc n) test (elim found [ Some k ↦ Some k | None ↦ cond here (Some n) None ])
    by (Some i) h here e = (omega (arith, h.0), h.1, h.2)
    by None h true e = (omega arith, e, h)
    by None h false e = λ k below. elim (cases_eq k n) [
      | inl same ↦ ap test same ∙ e
      | inr other ↦ h k (omega arith)
    ]

pub lowest_first : (n : ℕ) (test : ℕ → Bool) (found : Option ℕ) → First n test found → found ≡ lowest n test
lowest_first n test found h = by found h (lowest n test) (first_lowest n test)
  where
    by : (o : Option ℕ) → First n test o → (l : Option ℕ) → First n test l → o ≡ l
    by None h None g = refl
    by None h (Some j) g = absurd (both_ways (test j) (h j g.0) g.1)
    by (Some i) h None g = absurd (both_ways (test i) (g i h.0) h.1)
    by (Some i) h (Some j) g = elim (cases_lt i j) [
      | inl under ↦ absurd (both_ways (test i) (g.2 i under) h.1)
      | inr past ↦ elim (cases_lt j i) [
        | inl over ↦ absurd (both_ways (test j) (h.2 j over) g.1)
        | inr other ↦ ap Some {x = i} {y = j} (omega arith)
      ]
    ]

pub all_answer : (n : ℕ) (test : ℕ → Bool) (answer : Bool) → MatchBool answer ((k : ℕ) → k < n → test k ≡ true) ((i : ℕ) × (i < n) × (test i ≡ false)) → answer ≡ all_to n test
all_answer n test true h = sym (all_to_true n test h)
all_answer n test false (k, below, fails) = fails_at n test k below fails

pub any_answer : (n : ℕ) (test : ℕ → Bool) (answer : Bool) → MatchBool answer ((i : ℕ) × (i < n) × (test i ≡ true)) ((k : ℕ) → k < n → test k ≡ false) → answer ≡ any_to n test
any_answer n test true h = elim (cases_Bool (any_to n test)) [
  | inl found ↦ sym found
  | inr none ↦ absurd (both_ways (test h.0) (any_to_none n test none h.0 h.1) h.2)
]
any_answer zero test false h = refl
any_answer (suc n) test false h = any_answer n test false (λ k below. h k (omega arith)) ∙ ap (λ b. b || any_to n test) (sym (h n (omega arith)))

-- the numbers come in their order
placed : (p : Run nat_range_steps) → Trigger p.len → p.from.start ≡ 0 → (k : ℕ) → k < p.len → p.at k ≡ Some k
placed p seen front k below = sym (same (p.at k)) ∙ (range_runs p seen).3 k below ∙ ap Some {x = p.from.start + k} {y = k} (omega arith)
  where
    same : (o : Option ℕ) → option_map (λ y. y) o ≡ o
    same None = refl
    same (Some x) = refl

came : (p : Run nat_range_steps) → Trigger p.len → p.from.start ≡ 0 → (k : ℕ) → k < p.from.end → p.whole ≡ true → p.at k ≡ Some k
came p seen front k below whole = let all : p.len ≡ p.from.end - p.from.start = (range_runs p seen).1 whole in placed p seen front k (omega arith)

-- what `all` over the numbers below n answers, for the attribute `using`; its first equation, always true, shows the test
pub all_over_range : EveryRun nat_range_steps (λ p. (n : ℕ) × (n ≡ p.from.end) × (p.from.start ≡ 0 → (test : ℕ → Bool) → (all_to n test ≡ all_to n test)
    × ((all_to n test ≡ true) ⊎ ((i : ℕ) × (all_to n test ≡ false) × (test i ≡ false) × (p.whole ≡ true → p.at i ≡ Some i)))
    × ((k : ℕ) → IfSome (p.at k) (λ x. all_to n test ≡ true → test x ≡ true))))
all_over_range p seen =
    let n = p.from.end in
    (n, refl, λ front test. (refl, failing front test (lowest n (λ k. not (test k))) (first_lowest n (λ k. not (test k))), λ k. passes test k (p.at k) ((range_runs p seen).2 k)))
  where
    failing : p.from.start ≡ 0 → (test : ℕ → Bool) → (found : Option ℕ) → First p.from.end (λ k. not (test k)) found
        → (all_to p.from.end test ≡ true) ⊎ ((i : ℕ) × (all_to p.from.end test ≡ false) × (test i ≡ false) × (p.whole ≡ true → p.at i ≡ Some i))
    failing front test None h = inl (sym (all_answer p.from.end test true (λ k below. not-false (test k) (h k below))))
    failing front test (Some i) h =
        let fails : test i ≡ false = not-true (test i) h.1 in
        inr (i, sym (all_answer p.from.end test false (i, h.0, fails)), fails, came p seen front i h.0)

    passes : (test : ℕ → Bool) (k : ℕ) (o : Option ℕ) → IfSome o (λ x. (x ≡ p.from.start + k) × (x < p.from.end)) → IfSome o (λ x. all_to p.from.end test ≡ true → test x ≡ true)
    passes test k None is = tt
    passes test k (Some x) is = λ all. all_to_each p.from.end test all x is.1

-- what `all` answers where the test is known only of the numbers below n
pub all_to_from_run : {F : Type 0} {g : Mut F (ℕ × Unit {0}) Bool} (n : ℕ) (test : ℕ → Bool) (f : F) (r : Bool) (end : ℕ) → end ≡ n
    → SomeRun nat_range_steps (record { start = 0; end = end }) (λ p. MatchBool r (IsTrue p.whole × AllItemsGive p g f true) (AnyItemGives p g f false))
    → CallKeepsClosure g f → ((k : ℕ) (b : Bool) (f' : F) → k < n → Called g f (k, tt) b f' → b ≡ test k) → r ≡ all_to n test
all_to_from_run {g = g} n test f true end same run keeps acts =
    let p = run.0 in
    let ends : p.from.end ≡ end = ap (λ (s : Range ℕ). s.end) run.1 in
    all_answer n test true (λ k below. sym (acts k true f below
    (subst (λ o. IfSome o (λ x. Called g f (x, tt) true f)) (came p p.seen (ap (λ (s : Range ℕ). s.start) run.1) k (omega arith) run.2.0) (run.2.1 keeps k))))
all_to_from_run {g = g} n test f false end same run keeps acts =
    let p = run.0 in
    let ends : p.from.end ≡ end = ap (λ (s : Range ℕ). s.end) run.1 in
    let failed = run.2 keeps in
    let below : failed.0 < n = omega (arith, (range_runs p p.seen).0, failed.1) in
    all_answer n test false (
      failed.0,
      below,
      sym (acts failed.0 false f below
          (subst (λ o. IsSomeAnd o (λ x. Called g f (x, tt) false f)) (placed p p.seen (ap (λ (s : Range ℕ). s.start) run.1) failed.0 failed.1) failed.2)),
    )
