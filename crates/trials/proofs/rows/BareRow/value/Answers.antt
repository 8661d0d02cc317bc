use Rattle.std.proofs.Common.{sym}
use Rattle.trials.specs.BareRows.{no_values}
use Rattle.trials.proofs.rows.BareRow.value.Goals as goal

pub returns : goal.returns
returns c = sym (no_values c.args.self.now.count c.args._place c.args._object)
