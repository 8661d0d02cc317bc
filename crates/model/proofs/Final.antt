-- Applied and dropped are final until the transaction is cleared, and never both. Assumes nothing.
use Rattle.std.proofs.Common.{◌≡◌, ℕ, ◌<◌, false, not, eqb, ◌≢◌, sym, refl, ap, ◌∙◌, inl, inr}
use Rattle.std.proofs.lemmas.Bool.{cases_lt, both_ways, eq-eqb}
use Rattle.orders.specs.Rulebooks.{Rules}
use Rattle.model.specs.declared.statuses.Standing.{Standing}
use Rattle.model.specs.declared.statuses.Standing.TheVariants.{Absent, Pending as Undecided, Committed, Aborted}
use Rattle.model.specs.declared.statuses.Status.{Status}
use Rattle.model.specs.declared.statuses.Status.TheVariants.{None, Pending, Promised, Applied, Dropped}
use Rattle.model.specs.Calls.{Call, start, issue, begin, promise, decline, commit, abort, apply, drop, clear, down, up, tidy, read}
use Rattle.model.specs.Checks.{first, checks, start_checks, issue_checks, begin_checks, promise_checks, decline_checks, commit_checks, abort_checks, apply_checks, drop_checks}
use Rattle.model.specs.Docket.{Entry, Docket, at, blank, moved}
use Rattle.model.specs.Histories.{clears}
use Rattle.model.specs.Statuses.{is_none, is_pending, is_holding, after_up}
use Rattle.model.specs.Steps.{docket_after, started}
use Rattle.model.specs.World.{World, machines, objects}
use Rattle.model.proofs.Changes.{at_other, at_cases}
use Rattle.model.proofs.Courses.{Course, Good, course_of}
use Rattle.model.proofs.Known.{absent_known, undecided_known, none_known, pending_known, promised_known, holding_known}
use Rattle.model.proofs.Orderly.{Orderly}
use Rattle.model.proofs.Passed.{passed}

-- a status that no call moves but a clearing
pub record Final (x : Status) : Type 0 where
  pub not_none : x ≢ None
  pub not_pending : x ≢ Pending
  pub not_promised : x ≢ Promised
  pub over_up : after_up x ≡ x

pub applied_final : Final Applied
applied_final = record {
  not_none = λ e. cc;
  not_pending = λ e. cc;
  not_promised = λ e. cc;
  over_up = refl;
}

pub dropped_final : Final Dropped
dropped_final = record {
  not_none = λ e. cc;
  not_pending = λ e. cc;
  not_promised = λ e. cc;
  over_up = refl;
}

-- no entry is applied at one machine and dropped at another
pub not_both : (m n : ℕ) (e : Entry) → Good m n e → (s s' : ℕ) → e.status s ≡ Applied → e.status s' ≡ Dropped → ⊥
not_both m n e good s s' applied dropped = by e.standing good.course
  where
    dropped_inside : s' < m
    dropped_inside = elim (cases_lt s' m) [
      | inl within ↦ within
      | inr past ↦ cc (good.outside s' past)
    ]

    by : (y : Standing) → Course m y e.coordinator e.status → ⊥
    by Absent all = cc (all s)
    by Undecided (inl all) = cc (all s)
    by Undecided (inr p) = p.1 s applied
    by Committed p = elim (p.1 s' dropped_inside) [
      | inl q ↦ cc
      | inr q ↦ cc
    ]
    by Aborted p = p.1 s applied

module _ (rules : Rules) (w : World) (orderly : Orderly (machines w) (objects w) w.docket) (t s : ℕ) (x : Status) (final : Final x) (is : (w.docket t).status s ≡ x) where
  abbrev d : Docket
  d = w.docket

  -- an entry of another transaction, or a status that was not final
  stays : (u : ℕ) (y : Standing) (k : ℕ) (z : Status) → ((d u).status k ≢ x) → (at d u (moved (d u) y k z) t).status s ≡ x
  stays u y k z loose = elim (at_cases d u (moved (d u) y k z) t) [
    | inl here ↦
        ap (λ e. e.status s) here.1
        ∙ at_other (d u).status k z s (λ q. loose (ap (d u).status (sym q) ∙ ap (λ j. (d j).status s) (sym here.0) ∙ is))
        ∙ ap (λ j. (d j).status s) (sym here.0) ∙ is
    | inr there ↦ ap (λ e. e.status s) there.1 ∙ is
  ]

  from_none : (u k : ℕ) → not (is_none ((d u).status k)) ≡ false → (d u).status k ≢ x
  from_none u k e q = final.not_none (sym q ∙ none_known ((d u).status k) e)

  from_pending : (u k : ℕ) → not (is_pending ((d u).status k)) ≡ false → (d u).status k ≢ x
  from_pending u k e q = final.not_pending (sym q ∙ pending_known ((d u).status k) e)

  from_promised : (u k : ℕ) → (d u).status k ≡ Promised → (d u).status k ≢ x
  from_promised u k e q = final.not_promised (sym q ∙ e)

  from_holding : (u k : ℕ) → not (is_holding ((d u).status k)) ≡ false → (d u).status k ≢ x
  from_holding u k e q = elim (holding_known ((d u).status k) e) [
    | inl pending ↦ final.not_pending (sym q ∙ pending)
    | inr promised ↦ final.not_promised (sym q ∙ promised)
  ]

  -- the coordinator of an undecided transaction has nothing final
  from_undecided : (u : ℕ) → (d u).standing ≡ Undecided → (d u).status (d u).coordinator ≢ x
  from_undecided u undecided q = elim (course_of (d u) (orderly.good u) Undecided undecided) [
    | inl all ↦ final.not_none (sym q ∙ all (d u).coordinator)
    | inr p ↦ final.not_promised (sym q ∙ p.0)
  ]

  pub final_stays : (call : Call) → first (checks rules call w) ≡ 0 → clears t call ≡ false → (docket_after call d t).status s ≡ x
  final_stays (start u k list order) ok kept =
      let p = passed (start_checks rules w u k list order) refl ok in
      elim (at_cases d u (started k list order) t) [
        | inl here ↦
            let all = course_of (d u) (orderly.good u) Absent (absent_known (d u).standing p.1.0) in
            absurd (final.not_none (sym is ∙ ap (λ j. (d j).status s) here.0 ∙ all s))
        | inr there ↦ ap (λ e. e.status s) there.1 ∙ is
      ]
  final_stays (issue u) ok kept =
      let p = passed (issue_checks rules w u (d u)) refl ok in
      stays u (d u).standing (d u).coordinator Promised (from_none u (d u).coordinator p.1.1.1.0)
  final_stays (begin u k) ok kept =
      let p = passed (begin_checks w u k (d u)) refl ok in
      stays u (d u).standing k Pending (from_none u k p.1.1.1.1.1.1.0)
  final_stays (promise u k) ok kept =
      let p = passed (promise_checks rules w u k (d u)) refl ok in
      stays u (d u).standing k Promised (from_pending u k p.1.1.1.1.1.0)
  final_stays (decline u k) ok kept =
      let p = passed (decline_checks w u k (d u)) refl ok in
      stays u (d u).standing k Dropped (from_pending u k p.1.1.1.1.1.0)
  final_stays (commit u) ok kept =
      let p = passed (commit_checks w u (d u)) refl ok in
      stays u Committed (d u).coordinator Applied (from_undecided u (undecided_known (d u).standing p.1.1.0))
  final_stays (abort u) ok kept =
      let p = passed (abort_checks w u (d u)) refl ok in
      stays u Aborted (d u).coordinator Dropped (from_undecided u (undecided_known (d u).standing p.1.1.0))
  final_stays (apply u k) ok kept =
      let p = passed (apply_checks w u k (d u)) refl ok in
      stays u (d u).standing k Applied (from_promised u k (promised_known _ p.1.1.1.1.0))
  final_stays (drop u k) ok kept =
      let p = passed (drop_checks w u k (d u)) refl ok in
      stays u (d u).standing k Dropped (from_holding u k p.1.1.1.1.0)
  final_stays (clear u) ok kept =
      elim (at_cases d u blank t) [
        | inl here ↦ absurd (both_ways (eqb u t) kept (eq-eqb u t (sym here.0)))
        | inr there ↦ ap (λ e. e.status s) there.1 ∙ is
      ]
  final_stays (down k) ok kept = is
  final_stays (up k) ok kept = elim (at_cases (d t).status k (after_up ((d t).status k)) s) [
    | inl here ↦ here.1 ∙ ap (λ j. after_up ((d t).status j)) (sym here.0) ∙ ap after_up is ∙ final.over_up
    | inr there ↦ there.1 ∙ is
  ]
  final_stays (tidy k) ok kept = is
  final_stays (read k list buffer) ok kept = is
