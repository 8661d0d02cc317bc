use Rattle.std.proofs.Common.{unwrap_or, ap, ◌∙◌}
use Rattle.register.proofs.Tested.{row_value_or_zero}
use Rattle.register.proofs.opening.value_at.Goals as goal

pub returns : goal.returns
returns g c within =
    c.unwrap_or.ensures
    ∙ ap (λ o. unwrap_or o 0) c.value.ensures
    ∙ row_value_or_zero (g.R.Row.stores c.args.row.now) c.args.machine c.args.object within
