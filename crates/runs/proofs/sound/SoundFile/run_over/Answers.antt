use Rattle.std.proofs.Common.{vec_items, ◌∙◌, subst, arith}
use Rattle.model.specs.World.{World}
use Rattle.register.specs.Meaning.{world}
use Rattle.runfile.specs.FileFormat.{calls_from}
use Rattle.runfile.specs.HeaderFormat.{value_place}
use Rattle.runs.specs.Running.{Ran}
use Rattle.runs.proofs.Finished.{file_run}
use Rattle.runs.proofs.Fitted.{fits}
use Rattle.runs.proofs.sound.SoundFile.run_over.Goals as goal

pub load-requires : goal.load-requires
load-requires g c =
    let fit = fits (g.R.Row.stores c.args.row) c.args.self.now.bytes.now c.args.self.now.header c.requires.fits in
    omega (arith, fit.machines, c.args.self.now.sound.machines_bound)

pub returns : goal.returns
returns g c =
    let header = c.args.self.now.header in
    let file = c.args.self.now.bytes.now in
    file_run (g.R.Row.stores c.args.row) file header (g.R.Row.stores c.load.new.row) (g.met.R.Row.floors_are_ample c.args.row) c.requires.fits c.load.ensures
    (vec_items c.run_steps-ended.new.outcomes) c.err.result (world g.R.Row.stores c.run_steps-ended.new.register)
    (subst (λ (w : World). Ran w (calls_from header.steps file (value_place header.objects)) (vec_items c.run_steps-ended.new.outcomes) (world g.R.Row.stores c.run_steps-ended.new.register)) c.open-register.ensures c.run_steps-ended.ensures.steps)
    (c.err.ensures.value ∙ c.run_steps-ended.ensures.end)
