use Rattle.std.proofs.Common.{refl, arith}
use Rattle.std.proofs.lemmas.Result.{err_from_is_err_and}
use Rattle.runfile.specs.Walk.{Taken, Refused}
use Rattle.runs.proofs.Stepped.{midway_start, midway_more, ended_broken}
use Rattle.runs.proofs.sound.SoundFile.run_steps.Goals as goal

pub loop-step-init : goal.loop-step-init
loop-step-init g c =
    (rw (c.into_iter-step-iterator.ensures.into_iter_gives, c.requires.empty) (midway_start _ _ _ _ c.args.self.now.sound.values_inside c.new-step-items.ensures), refl)

pub loop-step-preserved : goal.loop-step-preserved
loop-step-preserved g c =
    let taken : Taken c.loop-step.step-iterator c.in_ok-step.field-0 c.next.new.self = rw c.in_ok-step.was at c.in-Some.ensures.steps in (
      rw c.push_reserved.ensures.items (midway_more _ _ _ _ _ _ _ _ _ c.perform.result c.loop-step.invariant.0 taken c.perform.ensures),
      omega arith,
    )

pub returns-in_err-step : goal.returns-in_err-step
returns-in_err-step g c =
    let refused : Refused c.loop-step.step-iterator c.in_err-step.field-0.0 c.next.new.self = rw c.in_err-step.was at c.in-Some.ensures.steps in
    let ended = ended_broken _ _ _ _ _ _ _ _ c.loop-step.invariant.0 refused in
    let p = err_from_is_err_and c.from_residual.result c.from_residual.ensures.1 in
    rw (p.1, p.2) (record { steps = ended.steps; end = ended.end })
