-- What every run keeps, call by call. Assumes nothing.
use Rattle.std.proofs.Common.{◌≡◌, ℕ, ◌+◌, ◌<◌, ◌≤◌, min, true, false, cond, not, eqb, ltb, ◌≢◌, List, ◌∷◌, length, set, sym, refl, ap, ◌∙◌, subst, inl, inr, arith, length-set}
use Rattle.std.proofs.lemmas.List.{get_or-set_other}
use Rattle.std.proofs.lemmas.Bool.{cases_eq, cond-true, cond-false, eq-eqb, ne_eqb, not-false, not-true, ltb-false, both_ways}
use Rattle.stores.specs.Rows.{StoreState, no_store, place_count, store_at}
use Rattle.orders.specs.Rulebooks.{Rules}
use Rattle.model.specs.declared.statuses.Standing.{Standing}
use Rattle.model.specs.declared.statuses.Standing.TheVariants.{Absent, Pending as Undecided, Committed, Aborted}
use Rattle.model.specs.declared.statuses.Status.{Status}
use Rattle.model.specs.declared.statuses.Status.TheVariants.{Pending, Promised, Applied, Dropped}
use Rattle.model.specs.Calls.{Call, start, issue, begin, promise, decline, commit, abort, apply, drop, clear, down, up, tidy, read}
use Rattle.model.specs.Checks.{first, checks, all_to, start_checks, issue_checks, begin_checks, promise_checks, decline_checks, commit_checks, abort_checks, apply_checks, drop_checks, clear_checks}
use Rattle.model.specs.Docket.{Entry, Docket, at, blank, moved, raised}
use Rattle.model.specs.Histories.{History, Order, accepted, docket_of, start_of, last_start, ledger_after, ledger_of}
use Rattle.model.specs.OneCopy.{Owing}
use Rattle.model.specs.Orders.{renewed, owes, owed, writes, transactions}
use Rattle.model.specs.Statuses.{is_undecided, is_promised, is_holding}
use Rattle.model.specs.Steps.{Event, Done, OrderChange, OneStore, StoresAfter, docket_after, started}
use Rattle.model.specs.World.{World, machines, objects, copy, room}
use Rattle.model.proofs.Agreeing.{Agree, SameOwing, same_owing, quiet_at, same_raised, agree_same, agree_commit, agree_apply}
use Rattle.model.proofs.Changes.{at_cases}
use Rattle.model.proofs.Counts.{all_to_each}
use Rattle.model.proofs.DocketSteps.{all_promised, docket_step, in_range, there, used}
use Rattle.model.proofs.Known.{absent_known, undecided_known, committed_known, aborted_known, promised_known}
use Rattle.model.proofs.Orderly.{Orderly}
use Rattle.model.proofs.Passed.{Passed, passed}
use Rattle.model.proofs.Rooms.{owes_moved_here, owes_moved_other, covered_at, owed_raised}

-- a transaction in use has the list and the order of its last start
abbrev pub Starts : Docket → (ℕ → Order) → Type 0
Starts d orders = (t : ℕ) → (d t).standing ≢ Absent → ((d t).objects ≡ (orders t).0) × ((d t).order ≡ (orders t).1)

pub record Sound (rules : Rules) (opening : List ℕ) (m n : ℕ) (history : History) (w : World) : Type 0 where
  pub well : w.opening ≡ 0
  pub counted : machines w ≡ m
  pub agrees : w.docket ≡ docket_of history
  pub orderly : Orderly m n w.docket
  pub starts : Starts w.docket (λ t. last_start t history)
  pub agree : Agree rules m n w.docket (copy w) (ledger_of rules opening history)
  pub rooms : (s : ℕ) → s < m → owed rules w.docket s ≤ room w s

-- stores that stay, and stores of which one changes
one_other : (c : ℕ) (before after : List StoreState) → after ≡ set before c (store_at after c) → (s : ℕ) → s ≢ c → store_at after s ≡ store_at before s
one_other c before after one s other = ap (λ xs. store_at xs s) one ∙ get_or-set_other before c s (store_at after c) no_store other

one_count : (c : ℕ) (before after : List StoreState) → after ≡ set before c (store_at after c) → place_count after ≡ place_count before
one_count c before after one = ap (min 255) (ap length one ∙ length-set before c (store_at after c))

module _ {rules : Rules} (count : (order olds : List ℕ) → length (rules.news order olds) ≡ length olds) {opening : List ℕ} {m n : ℕ} (some : 0 < m)
    (history : History) (w : World) (sound : Sound rules opening m n history w) where
  abbrev d : Docket
  d = w.docket

  sized : objects w ≡ n
  sized = sound.agree.long 0 some

  -- in the world's own counts
  pub orderly_here : Orderly (machines w) (objects w) d
  orderly_here = subst (λ (k : ℕ). Orderly k (objects w) d) (sym sound.counted) (subst (λ (k : ℕ). Orderly m k d) (sym sized) sound.orderly)

  next_orderly : (call : Call) → first (checks rules call w) ≡ 0 → Orderly m n (docket_after call d)
  next_orderly call ok =
      subst (λ (k : ℕ). Orderly k n (docket_after call d)) sound.counted
      (subst (λ (k : ℕ). Orderly (machines w) k (docket_after call d)) sized (docket_step rules w orderly_here call ok))

  -- the lists of transactions in use, where one entry moves
  abbrev orders : ℕ → Order
  orders t = last_start t history

  moved_starts : (u : ℕ) (y : Standing) (s : ℕ) (x : Status) → (d u).standing ≢ Absent → Starts (at d u (moved (d u) y s x)) orders
  moved_starts u y s x used t now = elim (at_cases d u (moved (d u) y s x) t) [
    | inl here ↦
        let mine = sound.starts u used in
        (ap (λ e. e.objects) here.1 ∙ mine.0 ∙ ap (λ k. (orders k).0) (sym here.0), ap (λ e. e.order) here.1 ∙ mine.1 ∙ ap (λ k. (orders k).1) (sym here.0))
    | inr away ↦
        let theirs = sound.starts t (λ absent. now (ap (λ e. e.standing) away.1 ∙ absent)) in
        (ap (λ e. e.objects) away.1 ∙ theirs.0, ap (λ e. e.order) away.1 ∙ theirs.1)
  ]

  next_starts : (call : Call) → first (checks rules call w) ≡ 0 → Starts (docket_after call d) (λ t. start_of t call (orders t))
  next_starts (start u s list order) ok = λ t now. elim (at_cases d u (started s list order) t) [
    | inl here ↦
        let mine : cond (eqb u t) (list, order) (orders t) ≡ (list, order) = cond-true (eqb u t) (list, order) (orders t) (eq-eqb u t (sym here.0)) in
        (ap (λ e. e.objects) here.1 ∙ ap (λ o. o.0) (sym mine), ap (λ e. e.order) here.1 ∙ ap (λ o. o.1) (sym mine))
    | inr away ↦
        let theirs = sound.starts t (λ absent. now (ap (λ e. e.standing) away.1 ∙ absent)) in
        let same : cond (eqb u t) (list, order) (orders t) ≡ orders t = cond-false (eqb u t) (list, order) (orders t) (ne_eqb u t (λ q. away.0 (sym q))) in
        (ap (λ e. e.objects) away.1 ∙ theirs.0 ∙ ap (λ o. o.0) (sym same), ap (λ e. e.order) away.1 ∙ theirs.1 ∙ ap (λ o. o.1) (sym same))
  ]
  next_starts (issue u) ok = moved_starts u (d u).standing (d u).coordinator Promised (used (d u) (passed (issue_checks rules w u (d u)) refl ok).1.0)
  next_starts (begin u s) ok = moved_starts u (d u).standing s Pending (used (d u) (passed (begin_checks w u s (d u)) refl ok).1.0)
  next_starts (promise u s) ok = moved_starts u (d u).standing s Promised (used (d u) (passed (promise_checks rules w u s (d u)) refl ok).1.0)
  next_starts (decline u s) ok = moved_starts u (d u).standing s Dropped (used (d u) (passed (decline_checks w u s (d u)) refl ok).1.0)
  next_starts (commit u) ok = moved_starts u Committed (d u).coordinator Applied (used (d u) (passed (commit_checks w u (d u)) refl ok).1.0)
  next_starts (abort u) ok = moved_starts u Aborted (d u).coordinator Dropped (used (d u) (passed (abort_checks w u (d u)) refl ok).1.0)
  next_starts (apply u s) ok = moved_starts u (d u).standing s Applied (used (d u) (passed (apply_checks w u s (d u)) refl ok).1.0)
  next_starts (drop u s) ok = moved_starts u (d u).standing s Dropped (used (d u) (passed (drop_checks w u s (d u)) refl ok).1.0)
  next_starts (clear u) ok = λ t now. elim (at_cases d u blank t) [
    | inl here ↦ absurd (now (ap (λ e. e.standing) here.1))
    | inr away ↦
        let theirs = sound.starts t (λ absent. now (ap (λ e. e.standing) away.1 ∙ absent)) in
        (ap (λ e. e.objects) away.1 ∙ theirs.0, ap (λ e. e.order) away.1 ∙ theirs.1)
  ]
  next_starts (down s) ok = sound.starts
  next_starts (up s) ok = sound.starts
  next_starts (tidy s) ok = sound.starts
  next_starts (read s list buffer) ok = sound.starts

  -- who owes nothing
  unless_committed : (e : Entry) (y : Standing) → e.standing ≡ y → y ≢ Committed → (s : ℕ) → s < m → Owing e s → ⊥
  unless_committed e y is other s within owes = other (sym is ∙ owes.committed)

  undecided_moves : (u s : ℕ) (x : Status) → not (is_undecided (d u).standing) ≡ false → SameOwing m d (at d u (moved (d u) (d u).standing s x))
  undecided_moves u s x e =
      let is = undecided_known (d u).standing e in
      quiet_at m d u (moved (d u) (d u).standing s x) (unless_committed (d u) Undecided is (λ e. cc)) (unless_committed (moved (d u) (d u).standing s x) Undecided is (λ e. cc))

  not_holding_there : (u : ℕ) → Passed (clear_checks w u (d u)) → (s : ℕ) → s < m → Owing (d u) s → ⊥
  not_holding_there u p s within owes =
      both_ways (is_holding ((d u).status s))
      (not-true (is_holding ((d u).status s)) (all_to_each (machines w) (λ k. not (is_holding ((d u).status k))) (not-false (all_to (machines w) (λ k. not (is_holding ((d u).status k)))) p.1.1.1.0) s (subst (λ (k : ℕ). s < k) (sym sound.counted) within)))
      owes.holding

  abbrev ledger : List ℕ
  ledger = ledger_of rules opening history

  module _ (w' : World) where
    -- copies and rooms, where no store is written
    unwritten : w'.stores ≡ w.stores → (s : ℕ) → copy w' s ≡ copy w s
    unwritten same s = ap (λ xs. (store_at xs s).values) same

    quiet : (d' : Docket) → w'.stores ≡ w.stores → SameOwing m d d' → Agree rules m n d' (copy w') ledger
    quiet d' same owing = agree_same d d' (copy w) (copy w') ledger sound.agree (unwritten same) owing

    next_agree : (call : Call) → first (checks rules call w) ≡ 0 → StoresAfter rules call d w.stores w'.stores → Agree rules m n (docket_after call d) (copy w') (ledger_after rules call orders ledger)
    next_agree (start u s list order) ok same =
        let p = passed (start_checks rules w u s list order) refl ok in
        quiet (at d u (started s list order)) same
        (quiet_at m d u (started s list order) (unless_committed (d u) Absent (absent_known (d u).standing p.1.0) (λ e. cc)) (unless_committed (started s list order) Undecided refl (λ e. cc)))
    next_agree (issue u) ok same = quiet (docket_after (issue u) d) same (undecided_moves u (d u).coordinator Promised (passed (issue_checks rules w u (d u)) refl ok).1.1.0)
    next_agree (begin u s) ok same = quiet (docket_after (begin u s) d) same (undecided_moves u s Pending (passed (begin_checks w u s (d u)) refl ok).1.1.1.0)
    next_agree (promise u s) ok same = quiet (docket_after (promise u s) d) same (undecided_moves u s Promised (passed (promise_checks rules w u s (d u)) refl ok).1.1.1.0)
    next_agree (decline u s) ok same = quiet (docket_after (decline u s) d) same (undecided_moves u s Dropped (passed (decline_checks w u s (d u)) refl ok).1.1.1.0)
    next_agree (commit u) ok (one, change) =
        let p = passed (commit_checks w u (d u)) refl ok in
        let in_use = used (d u) p.1.0 in
        let mine = sound.starts u in_use in
        subst (λ (l : List ℕ). Agree rules m n (docket_after (commit u) d) (copy w') l)
        (ap (λ os. renewed rules os (d u).order ledger) mine.0 ∙ ap (λ order. renewed rules (orders u).0 order ledger) mine.1)
        (agree_commit count d sound.orderly (copy w) (copy w') ledger sound.agree u in_use (d u).coordinator
        change.values (λ s other. ap (λ x. x.values) (one_other (d u).coordinator w.stores w'.stores one s other))
        (undecided_known (d u).standing p.1.1.0)
        (λ k below. all_promised rules w orderly_here u p k (subst (λ (j : ℕ). k < j) (sym sound.counted) below)))
    next_agree (abort u) ok same =
        let p = passed (abort_checks w u (d u)) refl ok in
        quiet (docket_after (abort u) d) same
        (quiet_at m d u (moved (d u) Aborted (d u).coordinator Dropped) (unless_committed (d u) Undecided (undecided_known (d u).standing p.1.1.0) (λ e. cc)) (unless_committed (moved (d u) Aborted (d u).coordinator Dropped) Aborted refl (λ e. cc)))
    next_agree (apply u s) ok (one, change) =
        let p = passed (apply_checks w u s (d u)) refl ok in
        agree_apply count d sound.orderly (copy w) (copy w') ledger sound.agree u (used (d u) p.1.0) s
        change.values (λ k other. ap (λ x. x.values) (one_other s w.stores w'.stores one k other))
        (subst (λ (j : ℕ). s < j) sound.counted (there s (machines w) p.1.1.0))
        (committed_known (d u).standing p.1.1.1.0)
        (promised_known ((d u).status s) p.1.1.1.1.0)
    next_agree (drop u s) ok same =
        let p = passed (drop_checks w u s (d u)) refl ok in
        let is = aborted_known (d u).standing p.1.1.1.0 in
        quiet (docket_after (drop u s) d) same
        (quiet_at m d u (moved (d u) (d u).standing s Dropped) (unless_committed (d u) Aborted is (λ e. cc)) (unless_committed (moved (d u) (d u).standing s Dropped) Aborted is (λ e. cc)))
    next_agree (clear u) ok same =
        quiet (at d u blank) same (quiet_at m d u blank (not_holding_there u (passed (clear_checks w u (d u)) refl ok)) (unless_committed blank Absent refl (λ e. cc)))
    next_agree (down s) ok same = quiet d same (same_owing m d)
    next_agree (up s) ok same = quiet (raised d s) same (same_raised m n d s sound.orderly)
    next_agree (tidy s) ok (one, change) =
        agree_same d d (copy w) (copy w') ledger sound.agree
        (λ k. elim (cases_eq k s) [
          | inl e ↦ ap (copy w') e ∙ change.values ∙ ap (copy w) (sym e)
          | inr other ↦ ap (λ x. x.values) (one_other s w.stores w'.stores one k other)
        ])
        (same_owing m d)
    next_agree (read s list buffer) ok same = quiet d same (same_owing m d)

    places_kept : (call : Call) → StoresAfter rules call d w.stores w'.stores → place_count w'.stores ≡ place_count w.stores
    places_kept (start u s list order) same = ap place_count same
    places_kept (issue u) same = ap place_count same
    places_kept (begin u s) same = ap place_count same
    places_kept (promise u s) same = ap place_count same
    places_kept (decline u s) same = ap place_count same
    places_kept (commit u) change = one_count (d u).coordinator w.stores w'.stores change.0
    places_kept (abort u) same = ap place_count same
    places_kept (apply u s) change = one_count s w.stores w'.stores change.0
    places_kept (drop u s) same = ap place_count same
    places_kept (clear u) same = ap place_count same
    places_kept (down s) same = ap place_count same
    places_kept (up s) same = ap place_count same
    places_kept (tidy s) change = one_count s w.stores w'.stores change.0
    places_kept (read s list buffer) same = ap place_count same

    next_count : (call : Call) → StoresAfter rules call d w.stores w'.stores → machines w' ≡ machines w
    next_count call change = ap (min 8) (places_kept call change)

    -- the rooms, where no store is written
    room_stays : w'.stores ≡ w.stores → (s : ℕ) → room w' s ≡ room w s
    room_stays same s = ap (λ xs. (store_at xs s).room) same

    abbrev Covered : Docket → Type 0
    Covered d' = (s : ℕ) → s < m → owed rules d' s ≤ room w' s

    -- the new entry owes nothing at k, and elsewhere what the old one owed
    owes_less : (u : ℕ) (y : Standing) (k : ℕ) (x : Status) → is_promised x ≡ false → (s : ℕ) → owes rules s (moved (d u) y k x) ≤ owes rules s (d u)
    owes_less u y k x idle s = elim (cases_eq s k) [
      | inl e ↦
          let none : owes rules s (moved (d u) y k x) ≡ 0 =
          ap (λ j. owes rules j (moved (d u) y k x)) e ∙ owes_moved_here rules (d u) y k x ∙ cond-false (is_promised x) (writes rules (d u)) 0 idle in
          omega (arith, none)
      | inr other ↦ omega (arith, owes_moved_other rules (d u) y k x s other)
    ]

    lighter : (u : ℕ) (e : Entry) → u < transactions → w'.stores ≡ w.stores → ((s : ℕ) → owes rules s e ≤ owes rules s (d u)) → Covered (at d u e)
    lighter u e below same less s within =
        covered_at rules d u e s (room w s) (room w' s) below (sound.rooms s within) (inl (omega (arith, less s, room_stays same s)))

    lighter_moved : (u : ℕ) (y : Standing) (k : ℕ) (x : Status) → u < transactions → is_promised x ≡ false → w'.stores ≡ w.stores → Covered (at d u (moved (d u) y k x))
    lighter_moved u y k x below idle same = lighter u (moved (d u) y k x) below same (owes_less u y k x idle)

    -- a promise at k was checked against the room there
    heavier : (u k : ℕ) → u < transactions → w'.stores ≡ w.stores → ltb (room w k) (owed rules d k + writes rules (d u)) ≡ false → Covered (at d u (moved (d u) (d u).standing k Promised))
    heavier u k below same checked s within =
        covered_at rules d u (moved (d u) (d u).standing k Promised) s (room w s) (room w' s) below (sound.rooms s within)
        (elim (cases_eq s k) [
          | inl e ↦
              let owes_here : owes rules s (moved (d u) (d u).standing k Promised) ≡ writes rules (d u) = ap (λ j. owes rules j (moved (d u) (d u).standing k Promised)) e ∙ owes_moved_here rules (d u) (d u).standing k Promised in
              inr (omega (arith, ltb-false (room w k) (owed rules d k + writes rules (d u)) checked, ap (owed rules d) e, owes_here, ap (room w) e, room_stays same s))
          | inr other ↦ inl (omega (arith, owes_moved_other rules (d u) (d u).standing k Promised s other, room_stays same s))
        ])

    -- an order that is carried out at k is no longer owed there
    carried_out : (u : ℕ) (y : Standing) (k : ℕ) → u < transactions → (d u).status k ≡ Promised → OneStore k w.stores w'.stores (OrderChange rules (d u)) → Covered (at d u (moved (d u) y k Applied))
    carried_out u y k below promised (one, change) s within =
        covered_at rules d u (moved (d u) y k Applied) s (room w s) (room w' s) below (sound.rooms s within)
        (inl (elim (cases_eq s k) [
          | inl e ↦
              let none : owes rules s (moved (d u) y k Applied) ≡ 0 = ap (λ j. owes rules j (moved (d u) y k Applied)) e ∙ owes_moved_here rules (d u) y k Applied in
              let all : owes rules s (d u) ≡ writes rules (d u) = ap (λ j. owes rules j (d u)) e ∙ ap (λ st. cond (is_promised st) (writes rules (d u)) 0) promised in
              omega (arith, none, all, change.falls, ap (room w) e, ap (room w') e)
          | inr other ↦ omega (arith, owes_moved_other rules (d u) y k Applied s other, ap (λ x. x.room) (one_other k w.stores w'.stores one s other))
        ]))

    same_rooms : w'.stores ≡ w.stores → Covered d
    same_rooms same s within = subst (λ (r : ℕ). owed rules d s ≤ r) (sym (room_stays same s)) (sound.rooms s within)

    next_rooms : (call : Call) → first (checks rules call w) ≡ 0 → StoresAfter rules call d w.stores w'.stores → Covered (docket_after call d)
    next_rooms (start u s list order) ok same =
        let p = passed (start_checks rules w u s list order) refl ok in
        lighter u (started s list order) (in_range u p.0) same (λ k. omega arith)
    next_rooms (issue u) ok same =
        let p = passed (issue_checks rules w u (d u)) refl ok in
        heavier u (d u).coordinator (in_range u p.0) same p.1.1.1.1.1.1.0
    next_rooms (begin u s) ok same =
        let p = passed (begin_checks w u s (d u)) refl ok in
        lighter_moved u (d u).standing s Pending (in_range u p.0) refl same
    next_rooms (promise u s) ok same =
        let p = passed (promise_checks rules w u s (d u)) refl ok in
        heavier u s (in_range u p.0) same p.1.1.1.1.1.1.1.0
    next_rooms (decline u s) ok same =
        let p = passed (decline_checks w u s (d u)) refl ok in
        lighter_moved u (d u).standing s Dropped (in_range u p.0) refl same
    next_rooms (commit u) ok change =
        let p = passed (commit_checks w u (d u)) refl ok in
        carried_out u Committed (d u).coordinator (in_range u p.0)
        (all_promised rules w orderly_here u p (d u).coordinator (subst (λ (j : ℕ). (d u).coordinator < j) (sym sound.counted) ((sound.orderly.good u).listing (used (d u) p.1.0)).coordinator))
        change
    next_rooms (abort u) ok same =
        let p = passed (abort_checks w u (d u)) refl ok in
        lighter_moved u Aborted (d u).coordinator Dropped (in_range u p.0) refl same
    next_rooms (apply u s) ok change =
        let p = passed (apply_checks w u s (d u)) refl ok in
        carried_out u (d u).standing s (in_range u p.0) (promised_known ((d u).status s) p.1.1.1.1.0) change
    next_rooms (drop u s) ok same =
        let p = passed (drop_checks w u s (d u)) refl ok in
        lighter_moved u (d u).standing s Dropped (in_range u p.0) refl same
    next_rooms (clear u) ok same =
        let p = passed (clear_checks w u (d u)) refl ok in
        lighter u blank (in_range u p.0) same (λ k. omega arith)
    next_rooms (down s) ok same = same_rooms same
    next_rooms (up s) ok same = λ k within. subst (λ (o : ℕ). o ≤ room w' k) (sym (owed_raised rules d s k)) (same_rooms same k within)
    next_rooms (tidy s) ok change = λ k within. elim (cases_eq k s) [
      | inl e ↦ omega (arith, sound.rooms k within, ap (room w) e, ap (room w') e, change.1.room)
      | inr other ↦ subst (λ (r : ℕ). owed rules d k ≤ r) (sym (ap (λ x. x.room) (one_other s w.stores w'.stores change.0 k other))) (sound.rooms k within)
    ]
    next_rooms (read s list buffer) ok same = same_rooms same

    -- an accepted call
    pub sound_after : (event : Event) → event.number ≡ 0 → first (checks rules event.call w) ≡ 0 → Done rules event.call w event.values w' → Sound rules opening m n (event ∷ history) w'
    sound_after event zero ok done =
        let call = event.call in
        let yes : accepted event ≡ true = eq-eqb event.number 0 zero in
        let docket = done.docket in
        record {
          well = done.opening ∙ sound.well;
          counted = next_count call done.stores ∙ sound.counted;
          agrees = docket ∙ ap (docket_after call) sound.agrees ∙ sym (cond-true (accepted event) (docket_after call (docket_of history)) (docket_of history) yes);
          orderly = subst (Orderly m n) (sym docket) (next_orderly call ok);
          starts = subst (λ (d' : Docket). Starts d' (λ t. last_start t (event ∷ history))) (sym docket)
              (λ t now.
              let s = next_starts call ok t now in
              let same : last_start t (event ∷ history) ≡ start_of t call (orders t) = cond-true (accepted event) (start_of t call (orders t)) (orders t) yes in
              (s.0 ∙ ap (λ o. o.0) (sym same), s.1 ∙ ap (λ o. o.1) (sym same)));
          agree = subst (λ (l : List ℕ). Agree rules m n w'.docket (copy w') l) (sym (cond-true (accepted event) (ledger_after rules call orders ledger) ledger yes))
              (subst (λ (d' : Docket). Agree rules m n d' (copy w') (ledger_after rules call orders ledger)) (sym docket) (next_agree call ok done.stores));
          rooms = subst (λ (d' : Docket). (s : ℕ) → s < m → owed rules d' s ≤ room w' s) (sym docket) (next_rooms call ok done.stores);
        }
