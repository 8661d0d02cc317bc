use Rattle.std.proofs.Common.{◌≡◌, ◌++◌, take, drop}
use Rattle.stores.specs.Rows.{store_at}
use Rattle.model.specs.Orders.{picked}
use Rattle.register.proofs.reading.copy_values.Given as goal

-- the front is copied, the rest as it was
abbrev pub invariant-loop-i : goal.invariant-loop-i
invariant-loop-i g l = l.buffer ≡ picked (store_at (g.R.Row.stores l.row) l.machine).values (take l.i l.list) ++ drop l.i l.initial.buffer
