use Rattle.std.proofs.Common.{[], ◌∷◌}
use Rattle.std.proofs.lemmas.Result.{err_from_is_err_and}
use Rattle.model.specs.Checks.{not_opened, no_such_machine, is_down, wrong_length, no_such_object, out_of_order, short_buffer, object_held}
use Rattle.register.specs.Meaning.{world}
use Rattle.register.proofs.Answered.{refusal_stands}
use Rattle.register.proofs.registers.Register.readable.Goals as goal

pub returns-in_err-running_machine : goal.returns-in_err-running_machine
returns-in_err-running_machine g c =
    let w = world g.R.Row.stores c.args.self.now in
    let p = err_from_is_err_and c.from_residual.result c.from_residual.ensures.1 in
    rw (p.1, p.2) (record {
      number = refusal_stands c.in_err-running_machine.field-0.0
          (not_opened w ∷ no_such_machine w c.args.machine ∷ is_down w c.args.machine ∷ [])
          (wrong_length c.args.list.now ∷ no_such_object w c.args.list.now ∷ out_of_order c.args.list.now ∷ short_buffer c.args.list.now c.args.buffer ∷ object_held w c.args.machine c.args.list.now ∷ [])
          c.in_err-running_machine.ensures;
      fits = tt;
    })
