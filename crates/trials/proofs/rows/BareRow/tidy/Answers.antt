use Rattle.std.proofs.Common.{rules}
use Rattle.stores.proofs.Written.{with_same}
use Rattle.trials.specs.Bare.{bare_row}
use Rattle.trials.specs.BareRows.{unchanged_tidy}
use Rattle.trials.proofs.rows.BareRow.tidy.Goals as goal

pub returns : goal.returns
returns c =
    let n = c.args.self.now.count in
    record {
      answer = search rules;
      others = with_same (bare_row n) c.args.place;
      change = unchanged_tidy n c.args.place;
    }
