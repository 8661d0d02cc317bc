-- The checks of each call, in their order. Assumes nothing.
use Rattle.std.specs.Prelude.{ℕ, zero, suc, ◌+◌, Bool, true, cond, not, ◌&&◌, ◌||◌, List, [], ◌∷◌, length, ◌==◌, nat_lt}
use Rattle.orders.specs.Ascending.{ascending}
use Rattle.orders.specs.Lists.{bad_length, all_below}
use Rattle.orders.specs.Rulebooks.{Rules}
use Rattle.model.specs.Calls.{Call, start, issue, begin, promise, decline, commit, abort, apply, drop, clear, down, up, tidy, read}
use Rattle.model.specs.Docket.{Entry}
use Rattle.model.specs.Orders.{held, owed, writes}
use Rattle.model.specs.Statuses.{is_absent, is_undecided, is_committed, is_aborted, is_none, is_pending, is_promised, is_dropped, is_holding}
use Rattle.model.specs.World.{World, machines, objects, room, is_up}

-- a check is an answer number and whether the call is refused with it
abbrev pub Check : Type 0
Check = ℕ × Bool

-- the number of the first check that fails, or 0
abbrev pub first : List Check → ℕ
first [] = 0
first (check ∷ checks) = cond check.1 check.0 (first checks)

-- the test passes at every number below n
abbrev pub all_to : ℕ → (ℕ → Bool) → Bool
all_to zero test = true
all_to (suc n) test = test n && all_to n test

abbrev pub not_opened : World → Check
not_opened w = (w.opening, not (w.opening == 0))

abbrev pub no_such_machine : World → ℕ → Check
no_such_machine w s = (1, not (nat_lt s (machines w)))

abbrev pub wrong_length : List ℕ → Check
wrong_length list = (2, bad_length list)

abbrev pub no_such_object : World → List ℕ → Check
no_such_object w list = (3, not (all_below (objects w) list))

abbrev pub out_of_order : List ℕ → Check
out_of_order list = (4, not (ascending list))

abbrev pub unlawful_order : Rules → List ℕ → List ℕ → Check
unlawful_order rules list order = (5, (length order == 0) || (nat_lt 24 (length order) || not (rules.lawful order (length list))))

abbrev pub no_such_transaction : ℕ → Check
no_such_transaction t = (6, nat_lt 63 t)

abbrev pub short_buffer : List ℕ → ℕ → Check
short_buffer list buffer = (7, nat_lt buffer (length list))

abbrev pub object_held : World → ℕ → List ℕ → Check
object_held w s list = (8, held w.docket s list)

abbrev pub in_use : Entry → Check
in_use e = (9, not (is_absent e.standing))

abbrev pub not_in_use : Entry → Check
not_in_use e = (10, is_absent e.standing)

abbrev pub not_undecided : Entry → Check
not_undecided e = (11, not (is_undecided e.standing))

abbrev pub not_committed : Entry → Check
not_committed e = (11, not (is_committed e.standing))

abbrev pub not_aborted : Entry → Check
not_aborted e = (11, not (is_aborted e.standing))

abbrev pub not_decided : Entry → Check
not_decided e = (11, is_undecided e.standing)

abbrev pub not_none_at : Entry → ℕ → Check
not_none_at e s = (12, not (is_none (e.status s)))

abbrev pub not_pending_at : Entry → ℕ → Check
not_pending_at e s = (12, not (is_pending (e.status s)))

abbrev pub not_promised_at : Entry → ℕ → Check
not_promised_at e s = (12, not (is_promised (e.status s)))

abbrev pub not_holding_at : Entry → ℕ → Check
not_holding_at e s = (12, not (is_holding (e.status s)))

abbrev pub is_coordinator : Entry → ℕ → Check
is_coordinator e s = (13, (s == e.coordinator))

abbrev pub not_all_promised : World → Entry → Check
not_all_promised w e = (14, not (all_to (machines w) (λ k. is_promised (e.status k))))

abbrev pub may_still_commit : World → Entry → Check
may_still_commit w e = (15, is_promised (e.status e.coordinator) && all_to (machines w) (λ k. not (is_dropped (e.status k))))

abbrev pub still_held : World → Entry → Check
still_held w e = (16, not (all_to (machines w) (λ k. not (is_holding (e.status k)))))

abbrev pub is_down : World → ℕ → Check
is_down w s = (17, not (is_up w s))

abbrev pub already_down : World → ℕ → Check
already_down w s = (18, not (is_up w s))

abbrev pub already_up : World → ℕ → Check
already_up w s = (18, is_up w s)

abbrev pub short_of_room : Rules → World → ℕ → Entry → Check
short_of_room rules w s e = (19, nat_lt (room w s) (owed rules w.docket s + writes rules e))

-- the checks of a call on a transaction, by the transaction's entry and, where the call names a machine, by that
abbrev pub start_checks : Rules → World → ℕ → ℕ → List ℕ → List ℕ → List Check
start_checks rules w t s list order =
    no_such_transaction t ∷ in_use (w.docket t) ∷ no_such_machine w s ∷ is_down w s
    ∷ wrong_length list ∷ no_such_object w list ∷ out_of_order list ∷ unlawful_order rules list order ∷ []

abbrev pub issue_checks : Rules → World → ℕ → Entry → List Check
issue_checks rules w t e =
    no_such_transaction t ∷ not_in_use e ∷ not_undecided e ∷ not_none_at e e.coordinator ∷ is_down w e.coordinator
    ∷ object_held w e.coordinator e.objects ∷ short_of_room rules w e.coordinator e ∷ []

abbrev pub begin_checks : World → ℕ → ℕ → Entry → List Check
begin_checks w t s e =
    no_such_transaction t ∷ not_in_use e ∷ no_such_machine w s ∷ not_undecided e ∷ is_coordinator e s
    ∷ not_promised_at e e.coordinator ∷ not_none_at e s ∷ is_down w s ∷ object_held w s e.objects ∷ []

abbrev pub promise_checks : Rules → World → ℕ → ℕ → Entry → List Check
promise_checks rules w t s e =
    no_such_transaction t ∷ not_in_use e ∷ no_such_machine w s ∷ not_undecided e ∷ is_coordinator e s
    ∷ not_pending_at e s ∷ is_down w s ∷ short_of_room rules w s e ∷ []

abbrev pub decline_checks : World → ℕ → ℕ → Entry → List Check
decline_checks w t s e =
    no_such_transaction t ∷ not_in_use e ∷ no_such_machine w s ∷ not_undecided e ∷ is_coordinator e s
    ∷ not_pending_at e s ∷ is_down w s ∷ []

abbrev pub commit_checks : World → ℕ → Entry → List Check
commit_checks w t e =
    no_such_transaction t ∷ not_in_use e ∷ not_undecided e ∷ is_down w e.coordinator ∷ not_all_promised w e ∷ []

abbrev pub abort_checks : World → ℕ → Entry → List Check
abort_checks w t e =
    no_such_transaction t ∷ not_in_use e ∷ not_undecided e ∷ is_down w e.coordinator ∷ may_still_commit w e ∷ []

abbrev pub apply_checks : World → ℕ → ℕ → Entry → List Check
apply_checks w t s e =
    no_such_transaction t ∷ not_in_use e ∷ no_such_machine w s ∷ not_committed e ∷ not_promised_at e s ∷ is_down w s ∷ []

abbrev pub drop_checks : World → ℕ → ℕ → Entry → List Check
drop_checks w t s e =
    no_such_transaction t ∷ not_in_use e ∷ no_such_machine w s ∷ not_aborted e ∷ not_holding_at e s ∷ is_down w s ∷ []

abbrev pub clear_checks : World → ℕ → Entry → List Check
clear_checks w t e = no_such_transaction t ∷ not_in_use e ∷ not_decided e ∷ still_held w e ∷ []

abbrev pub read_checks : World → ℕ → List ℕ → ℕ → List Check
read_checks w s list buffer =
    no_such_machine w s ∷ is_down w s ∷ wrong_length list ∷ no_such_object w list ∷ out_of_order list
    ∷ short_buffer list buffer ∷ object_held w s list ∷ []

abbrev pub checks : Rules → Call → World → List Check
checks rules (start t s list order) w = start_checks rules w t s list order
checks rules (issue t) w = issue_checks rules w t (w.docket t)
checks rules (begin t s) w = begin_checks w t s (w.docket t)
checks rules (promise t s) w = promise_checks rules w t s (w.docket t)
checks rules (decline t s) w = decline_checks w t s (w.docket t)
checks rules (commit t) w = commit_checks w t (w.docket t)
checks rules (abort t) w = abort_checks w t (w.docket t)
checks rules (apply t s) w = apply_checks w t s (w.docket t)
checks rules (drop t s) w = drop_checks w t s (w.docket t)
checks rules (clear t) w = clear_checks w t (w.docket t)
checks rules (down s) w = no_such_machine w s ∷ already_down w s ∷ []
checks rules (up s) w = no_such_machine w s ∷ already_up w s ∷ []
checks rules (tidy s) w = no_such_machine w s ∷ is_down w s ∷ []
checks rules (read s list buffer) w = read_checks w s list buffer

-- a register that was not well opened answers every call with the number of its opening
abbrev pub answer : Rules → Call → World → ℕ
answer rules call w = first (not_opened w ∷ checks rules call w)
