-- Tests of a transaction's standing and of its status at a machine. Assumes nothing.
use Rattle.std.specs.Prelude.{Bool, true, false}
use Rattle.model.specs.declared.statuses.Standing.{Standing}
use Rattle.model.specs.declared.statuses.Standing.TheVariants.{Absent, Pending as Undecided, Committed, Aborted}
use Rattle.model.specs.declared.statuses.Status.{Status}
use Rattle.model.specs.declared.statuses.Status.TheVariants.{None, Pending, Promised, Applied, Dropped}

abbrev pub is_absent : Standing → Bool
is_absent Absent = true
is_absent Undecided = false
is_absent Committed = false
is_absent Aborted = false

-- pending as a whole: neither committed nor aborted yet
abbrev pub is_undecided : Standing → Bool
is_undecided Absent = false
is_undecided Undecided = true
is_undecided Committed = false
is_undecided Aborted = false

abbrev pub is_committed : Standing → Bool
is_committed Absent = false
is_committed Undecided = false
is_committed Committed = true
is_committed Aborted = false

abbrev pub is_aborted : Standing → Bool
is_aborted Absent = false
is_aborted Undecided = false
is_aborted Committed = false
is_aborted Aborted = true

abbrev pub is_none : Status → Bool
is_none None = true
is_none Pending = false
is_none Promised = false
is_none Applied = false
is_none Dropped = false

abbrev pub is_pending : Status → Bool
is_pending None = false
is_pending Pending = true
is_pending Promised = false
is_pending Applied = false
is_pending Dropped = false

abbrev pub is_promised : Status → Bool
is_promised None = false
is_promised Pending = false
is_promised Promised = true
is_promised Applied = false
is_promised Dropped = false

abbrev pub is_dropped : Status → Bool
is_dropped None = false
is_dropped Pending = false
is_dropped Promised = false
is_dropped Applied = false
is_dropped Dropped = true

-- a transaction holds its objects at a machine exactly while it is pending or promised there
abbrev pub is_holding : Status → Bool
is_holding None = false
is_holding Pending = true
is_holding Promised = true
is_holding Applied = false
is_holding Dropped = false

-- a machine that comes up drops what is pending there, and keeps what is promised
abbrev pub after_up : Status → Status
after_up None = None
after_up Pending = Dropped
after_up Promised = Promised
after_up Applied = Applied
after_up Dropped = Dropped
