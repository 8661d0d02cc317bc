-- How a status moves, by the turn that it is given. Assumes nothing.
use Rattle.std.specs.Prelude.{Bool, true, cond}
use Rattle.model.specs.declared.statuses.Status.{Status}
use Rattle.model.specs.declared.statuses.Status.TheVariants.{Pending, Promised, Applied, Dropped}
use Rattle.model.specs.declared.statuses.Turn.{Turn}
use Rattle.model.specs.declared.statuses.Turn.TheVariants.{Issue, Begin, Promise, Decline, Commit, Abort, Apply, Drop, Up}
use Rattle.model.specs.Statuses.{is_none, is_pending, is_promised, is_holding}

-- the statuses that a turn moves; a coordinator's status is not asked at a decision
abbrev pub moves : Turn → Status → Bool
moves Issue status = is_none status
moves Begin status = is_none status
moves Promise status = is_pending status
moves Decline status = is_pending status
moves Commit status = true
moves Abort status = true
moves Apply status = is_promised status
moves Drop status = is_holding status
moves Up status = is_pending status

-- where it moves them
abbrev pub target : Turn → Status
target Issue = Promised
target Begin = Pending
target Promise = Promised
target Decline = Dropped
target Commit = Applied
target Abort = Dropped
target Apply = Applied
target Drop = Dropped
target Up = Dropped

abbrev pub status_after : Turn → Status → Status
status_after turn status = cond (moves turn status) (target turn) status
