use Rattle.std.proofs.Common.{sym}
use Rattle.trials.specs.BareRows.{answers_all, answers_there}
use Rattle.trials.proofs.rows.BareRow.remaining.Goals as goal

pub returns : goal.returns
returns c =
    let n = c.args.self.now.count in
    answers_all n c.args.place (λ s. s.room) _ _ _ c.then_some.ensures c.count.ensures (λ here. sym (answers_there n c.args.place (λ s. s.room) here))
