use Rattle.std.proofs.Common.{arith}
use Rattle.trials.specs.BareRows.{counted}
use Rattle.trials.proofs.rows.BareRow.count.Goals as goal

pub returns : goal.returns
returns c = omega (arith, c.min.ensures, counted c.args.self.now.count)
