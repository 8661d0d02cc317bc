-- Every accepted call keeps the docket in order. Assumes nothing.
use Rattle.std.proofs.Common.{◌≡◌, ℕ, ◌<◌, true, false, not, ltb, ◌≢◌, List, [], ◌∷◌, refl, ap, inl, inr, arith}
use Rattle.std.proofs.lemmas.Bool.{ltb-true, ltb-false, eqb-false, not-false, false≢true, both_ways}
use Rattle.orders.specs.Ascending.{ascending}
use Rattle.orders.specs.Lists.{all_below}
use Rattle.orders.specs.Rulebooks.{Rules}
use Rattle.model.specs.declared.statuses.Standing.{Standing}
use Rattle.model.specs.declared.statuses.Standing.TheVariants.{Absent, Committed, Aborted}
use Rattle.model.specs.declared.statuses.Status.{Status}
use Rattle.model.specs.declared.statuses.Status.TheVariants.{Pending, Promised, Applied, Dropped}
use Rattle.model.specs.Calls.{Call, start, issue, begin, promise, decline, commit, abort, apply, drop, clear, down, up, tidy, read}
use Rattle.model.specs.Checks.{first, checks, all_to, start_checks, issue_checks, begin_checks, promise_checks, decline_checks, commit_checks, abort_checks, apply_checks, drop_checks, clear_checks, no_such_machine, already_up}
use Rattle.model.specs.Docket.{Entry, Docket, at, blank, moved}
use Rattle.model.specs.Orders.{transactions}
use Rattle.model.specs.Statuses.{is_absent, is_promised, is_holding}
use Rattle.model.specs.Steps.{docket_after, started}
use Rattle.model.specs.World.{World, machines, objects}
use Rattle.model.proofs.Counts.{all_to_each}
use Rattle.model.proofs.Courses.{Good, good_blank, good_started, good_issue, good_begin, good_promise, good_decline, good_commit, good_abort, good_apply, good_drop}
use Rattle.model.proofs.Known.{undecided_known, committed_known, aborted_known, none_known, pending_known, promised_known}
use Rattle.model.proofs.Orderly.{Orderly, Holds, Apart, orderly_at, orderly_raised, moved_grows, not_held}
use Rattle.model.proofs.Passed.{Passed, passed}

-- tests that were passed, as facts
pub in_range : (t : ℕ) → ltb 63 t ≡ false → t < transactions
in_range t e = let low = ltb-false 63 t e in omega arith

pub there : (s m : ℕ) → not (ltb s m) ≡ false → s < m
there s m e = ltb-true s m (not-false (ltb s m) e)

pub used : (e : Entry) → is_absent e.standing ≡ false → e.standing ≢ Absent
used e some absent = both_ways (is_absent e.standing) some (ap is_absent absent)

module _ (rules : Rules) (w : World) (orderly : Orderly (machines w) (objects w) w.docket) where
  abbrev M : ℕ
  M = machines w

  abbrev N : ℕ
  N = objects w

  abbrev d : Docket
  d = w.docket

  abbrev Next : Docket → Type 0
  Next d' = Orderly M N d'

  -- one entry moves, and holds nothing new
  settled : (t : ℕ) (y : Standing) (s : ℕ) (x : Status) → t < transactions → Good M N (moved (d t) y s x) → (is_holding x ≡ true → Holds (d t) s) → Next (at d t (moved (d t) y s x))
  settled t y s x below good old = orderly_at d orderly t (moved (d t) y s x) below good (moved_grows d orderly t y s x (λ h. inl (old h)))

  -- one entry moves, and holds what nobody else holds
  taken : (t : ℕ) (s : ℕ) (x : Status) → t < transactions → Good M N (moved (d t) (d t).standing s x) → ((t' : ℕ) → t' ≢ t → Holds (d t') s → Apart (d t).objects (d t').objects) → Next (at d t (moved (d t) (d t).standing s x))
  taken t s x below good apart = orderly_at d orderly t (moved (d t) (d t).standing s x) below good (moved_grows d orderly t (d t).standing s x (λ h. inr apart))

  start_step : (t s : ℕ) (list order : List ℕ) → Passed (start_checks rules w t s list order) → Next (at d t (started s list order))
  start_step t s list order p =
      orderly_at d orderly t (started s list order) (in_range t p.0)
      (good_started s list order (there s M p.1.1.0) p.1.1.1.1.0 (not-false (all_below N list) p.1.1.1.1.1.0) (not-false (ascending list) p.1.1.1.1.1.1.0))
      (λ k holds. absurd (false≢true holds))

  issue_step : (t : ℕ) → Passed (issue_checks rules w t (d t)) → Next (at d t (moved (d t) (d t).standing (d t).coordinator Promised))
  issue_step t p =
      let good = orderly.good t in
      let is = undecided_known (d t).standing p.1.1.0 in
      taken t (d t).coordinator Promised (in_range t p.0)
      (good_issue (d t) good is (good.listing (used (d t) p.1.0)).coordinator (none_known _ p.1.1.1.0))
      (λ t' other holds. not_held d orderly (d t).coordinator (d t).objects p.1.1.1.1.1.0 t' holds)

  begin_step : (t s : ℕ) → Passed (begin_checks w t s (d t)) → Next (at d t (moved (d t) (d t).standing s Pending))
  begin_step t s p =
      let good = orderly.good t in
      taken t s Pending (in_range t p.0)
      (good_begin (d t) good s (undecided_known (d t).standing p.1.1.1.0) (there s M p.1.1.0) (eqb-false s (d t).coordinator p.1.1.1.1.0) (promised_known _ p.1.1.1.1.1.0))
      (λ t' other holds. not_held d orderly s (d t).objects p.1.1.1.1.1.1.1.1.0 t' holds)

  promise_step : (t s : ℕ) → Passed (promise_checks rules w t s (d t)) → Next (at d t (moved (d t) (d t).standing s Promised))
  promise_step t s p =
      let pending = pending_known _ p.1.1.1.1.1.0 in
      settled t (d t).standing s Promised (in_range t p.0)
      (good_promise (d t) (orderly.good t) s (undecided_known (d t).standing p.1.1.1.0) (there s M p.1.1.0) (eqb-false s (d t).coordinator p.1.1.1.1.0) pending)
      (λ h. ap is_holding pending)

  decline_step : (t s : ℕ) → Passed (decline_checks w t s (d t)) → Next (at d t (moved (d t) (d t).standing s Dropped))
  decline_step t s p =
      settled t (d t).standing s Dropped (in_range t p.0)
      (good_decline (d t) (orderly.good t) s (undecided_known (d t).standing p.1.1.1.0) (there s M p.1.1.0) (eqb-false s (d t).coordinator p.1.1.1.1.0)
      (pending_known _ p.1.1.1.1.1.0))
      (λ h. absurd (false≢true h))

  -- every machine has promised
  pub all_promised : (t : ℕ) → Passed (commit_checks w t (d t)) → (k : ℕ) → k < M → (d t).status k ≡ Promised
  all_promised t p k below = promised_known _ (ap not (all_to_each M (λ j. is_promised ((d t).status j)) (not-false (all_to M (λ j. is_promised ((d t).status j))) p.1.1.1.1.0) k below))

  commit_step : (t : ℕ) → Passed (commit_checks w t (d t)) → Next (at d t (moved (d t) Committed (d t).coordinator Applied))
  commit_step t p =
      let good = orderly.good t in
      settled t Committed (d t).coordinator Applied (in_range t p.0)
      (good_commit (d t) good (undecided_known (d t).standing p.1.1.0) (good.listing (used (d t) p.1.0)).coordinator (all_promised t p))
      (λ h. absurd (false≢true h))

  abort_step : (t : ℕ) → Passed (abort_checks w t (d t)) → Next (at d t (moved (d t) Aborted (d t).coordinator Dropped))
  abort_step t p =
      let good = orderly.good t in
      settled t Aborted (d t).coordinator Dropped (in_range t p.0)
      (good_abort (d t) good (undecided_known (d t).standing p.1.1.0) (good.listing (used (d t) p.1.0)).coordinator)
      (λ h. absurd (false≢true h))

  apply_step : (t s : ℕ) → Passed (apply_checks w t s (d t)) → Next (at d t (moved (d t) (d t).standing s Applied))
  apply_step t s p =
      settled t (d t).standing s Applied (in_range t p.0)
      (good_apply (d t) (orderly.good t) s (committed_known (d t).standing p.1.1.1.0) (there s M p.1.1.0))
      (λ h. absurd (false≢true h))

  drop_step : (t s : ℕ) → Passed (drop_checks w t s (d t)) → Next (at d t (moved (d t) (d t).standing s Dropped))
  drop_step t s p =
      settled t (d t).standing s Dropped (in_range t p.0)
      (good_drop (d t) (orderly.good t) s (aborted_known (d t).standing p.1.1.1.0) (there s M p.1.1.0))
      (λ h. absurd (false≢true h))

  clear_step : (t : ℕ) → Passed (clear_checks w t (d t)) → Next (at d t blank)
  clear_step t p = orderly_at d orderly t blank (in_range t p.0) (good_blank M N) (λ k holds. absurd (false≢true holds))

  pub docket_step : (call : Call) → first (checks rules call w) ≡ 0 → Next (docket_after call d)
  docket_step (start t s list order) ok = start_step t s list order (passed (start_checks rules w t s list order) refl ok)
  docket_step (issue t) ok = issue_step t (passed (issue_checks rules w t (d t)) refl ok)
  docket_step (begin t s) ok = begin_step t s (passed (begin_checks w t s (d t)) refl ok)
  docket_step (promise t s) ok = promise_step t s (passed (promise_checks rules w t s (d t)) refl ok)
  docket_step (decline t s) ok = decline_step t s (passed (decline_checks w t s (d t)) refl ok)
  docket_step (commit t) ok = commit_step t (passed (commit_checks w t (d t)) refl ok)
  docket_step (abort t) ok = abort_step t (passed (abort_checks w t (d t)) refl ok)
  docket_step (apply t s) ok = apply_step t s (passed (apply_checks w t s (d t)) refl ok)
  docket_step (drop t s) ok = drop_step t s (passed (drop_checks w t s (d t)) refl ok)
  docket_step (clear t) ok = clear_step t (passed (clear_checks w t (d t)) refl ok)
  docket_step (down s) ok = orderly
  docket_step (up s) ok = orderly_raised d orderly s (there s M (passed (no_such_machine w s ∷ already_up w s ∷ []) refl ok).0)
  docket_step (tidy s) ok = orderly
  docket_step (read s list buffer) ok = orderly
