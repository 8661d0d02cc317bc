use Rattle.std.proofs.Common.{ℕ, List, sym, ◌∙◌, subst}
use Rattle.model.specs.Calls.{read}
use Rattle.model.specs.Steps.{Step}
use Rattle.model.specs.World.{copy}
use Rattle.register.specs.Meaning.{world, no_orders}
use Rattle.runs.proofs.Fronts.{front_read}
use Rattle.runs.proofs.stepping.read_out.Goals as goal

pub returns-in-Ok : goal.returns-in-Ok
returns-in-Ok g c =
    let w = world g.R.Row.stores c.args.register.now in
    let list = c.args.list.now in
    let answered = c.in-Ok.ensures in
    subst (λ (vs : List ℕ). Step no_orders w (record { call = read c.args.machine list 8; number = 0; values = vs }) w)
    (sym (c.front.ensures ∙ front_read (copy w c.args.machine) list _ c.read.new.buffer answered.few answered.buffer))
    answered.step
