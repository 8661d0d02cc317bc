use Rattle.std.proofs.Common.{arith}
use Rattle.stores.specs.Rows.{store_at}
use Rattle.register.proofs.Copied.{copied_more, copied_all}
use Rattle.register.proofs.reading.copy_values.Goals as goal

pub loop-i-preserved : goal.loop-i-preserved
loop-i-preserved g c =
    copied_more (store_at (g.R.Row.stores c.args.row.now) c.args.machine).values c.args.list.now c.args.buffer.now c.loop-i.buffer c.loop-i.i c.value_at.result
    c.loop-i-test.true c.requires.1 c.loop-i.invariant (c.value_at.ensures c.requires.0)

pub returns : goal.returns
returns g c =
    copied_all (store_at (g.R.Row.stores c.args.row.now) c.args.machine).values c.args.list.now c.args.buffer.now c.loop-i.buffer c.loop-i.i
    (omega arith) c.loop-i.invariant
