use Rattle.std.proofs.Common.{length, sym}
use Rattle.trials.specs.BareRows.{answers_all, answers_there}
use Rattle.trials.proofs.rows.BareRow.object_count.Goals as goal

pub returns : goal.returns
returns c =
    let n = c.args.self.now.count in
    answers_all n c.args.place (λ s. length s.values) _ _ _ c.then_some.ensures c.count.ensures (λ here. sym (answers_there n c.args.place (λ s. length s.values) here))
