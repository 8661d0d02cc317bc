use Rattle.std.proofs.Common.{◌≡◌, vec_items, vec_capacity}
use Rattle.register.specs.Meaning.{world}
use Rattle.runs.proofs.Stepped.{Midway}
use Rattle.runs.proofs.sound.SoundFile.run_steps.Given as goal

abbrev pub invariant-loop-step : goal.invariant-loop-step
invariant-loop-step g l =
    Midway l.self.bytes.now l.self.header (world g.R.Row.stores l.initial.register) l.step-iterator (vec_items l.outcomes) (world g.R.Row.stores l.register)
    × (vec_capacity l.outcomes ≡ vec_capacity l.initial.outcomes)
