use Rattle.std.proofs.Common.{true, sym, ap, ◌∙◌}
use Rattle.model.specs.Docket.{Docket}
use Rattle.register.specs.Meaning.{world, with_up}
use Rattle.register.proofs.Raised.{blank_raised}
use Rattle.register.proofs.registers.Register.raise.Goals as goal

pub returns : goal.returns
returns g c =
    let w = world g.R.Row.stores c.args.self.now in
    let up = (with_up w c.args.machine true).up in
    c.set_up.ensures ∙ ap (λ (d : Docket). record { opening = w.opening; docket = d; up = up; stores = w.stores }) (sym (blank_raised c.args.machine))
