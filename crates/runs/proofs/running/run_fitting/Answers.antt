use Rattle.runfile.proofs.SoundHeader.{sound_at_ok}
use Rattle.runs.proofs.Fitted.{fits}
use Rattle.runs.proofs.running.run_fitting.Goals as goal

pub invariant_of-file : goal.invariant_of-file
invariant_of-file g c =
    record { sound = sound_at_ok c.args.bytes.now c.args.header (fits (g.R.Row.stores c.args.row) c.args.bytes.now c.args.header c.requires).reading }
