use Rattle.runfile.specs.HeaderFormat.{opening_values}
use Rattle.runs.proofs.Filled.{LoadedTo}
use Rattle.runs.proofs.sound.SoundFile.load.Given as goal

abbrev pub invariant-loop-machine : goal.invariant-loop-machine
invariant-loop-machine g l = LoadedTo (g.R.Row.stores l.initial.row) (opening_values l.self.bytes.now) l.machine (g.R.Row.stores l.row)
