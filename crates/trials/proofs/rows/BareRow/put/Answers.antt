use Rattle.stores.proofs.Written.{with_same}
use Rattle.stores.specs.Meaning.{put_answer}
use Rattle.trials.specs.Bare.{bare_row}
use Rattle.trials.specs.BareRows.{answers_all, put_refused, unchanged_put}
use Rattle.trials.proofs.rows.BareRow.put.Goals as goal

pub returns : goal.returns
returns c =
    let n = c.args.self.now.count in
    record {
      answer = answers_all n c.args.place (λ s. put_answer s.values s.room c.args._object) _ _ _ c.then_some.ensures c.count.ensures (put_refused n c.args.place c.args._object);
      others = with_same (bare_row n) c.args.place;
      change = unchanged_put n c.args.place c.args._object c.args._value;
    }
