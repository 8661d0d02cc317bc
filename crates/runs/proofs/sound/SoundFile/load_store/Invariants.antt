use Rattle.std.proofs.Common.{◌≡◌}
use Rattle.stores.specs.Rows.{store_at, with_store}
use Rattle.runfile.specs.HeaderFormat.{opening_values}
use Rattle.runs.specs.Loading.{FilledTo}
use Rattle.runs.proofs.sound.SoundFile.load_store.Given as goal

-- this store alone changes, and so far holds the first values
abbrev pub invariant-loop-object : goal.invariant-loop-object
invariant-loop-object g l =
    (g.R.Row.stores l.row ≡ with_store (g.R.Row.stores l.initial.row) l.machine (store_at (g.R.Row.stores l.row) l.machine))
    × FilledTo (opening_values l.self.bytes.now) l.object (store_at (g.R.Row.stores l.initial.row) l.machine) (store_at (g.R.Row.stores l.row) l.machine)
