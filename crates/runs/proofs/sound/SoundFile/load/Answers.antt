use Rattle.std.proofs.Common.{ℕ, ◌<◌, sym, ◌∙◌, subst, arith}
use Rattle.runfile.specs.HeaderFormat.{opening_values}
use Rattle.runfile.proofs.Values.{length_opening_values}
use Rattle.std.proofs.lemmas.Bool.{lt-ltb}
use Rattle.stores.specs.Rows.{place_count, store_at}
use Rattle.runs.specs.Loading.{FilledTo}
use Rattle.runs.proofs.Filled.{loaded_none, loaded_more, loaded_all}
use Rattle.runs.proofs.sound.SoundFile.load.Goals as goal

pub loop-machine-init : goal.loop-machine-init
loop-machine-init g c = loaded_none (g.R.Row.stores c.args.row.now) (opening_values c.args.self.now.bytes.now)

pub load_store-requires : goal.load_store-requires
load_store-requires g c =
    let there : c.loop-machine.machine < place_count (g.R.Row.stores c.loop-machine.row) = omega (arith, c.loop-machine.invariant.count) in
    lt-ltb _ _ there

pub loop-machine-preserved : goal.loop-machine-preserved
loop-machine-preserved g c =
    let now = g.R.Row.stores c.loop-machine.row in
    let next = g.R.Row.stores c.load_store.new.row in
    let machine = c.loop-machine.machine in
    let there : machine < place_count now = omega (arith, c.loop-machine.invariant.count) in
    loaded_more (g.R.Row.stores c.args.row.now) now next (opening_values c.args.self.now.bytes.now) machine c.loop-machine.invariant (lt-ltb _ _ there) c.load_store.ensures.others
    (subst (λ (n : ℕ). FilledTo (opening_values c.args.self.now.bytes.now) n (store_at now machine) (store_at next machine)) (c.args.self.now.sound.objects_are ∙ sym (length_opening_values c.args.self.now.bytes.now)) c.load_store.ensures.filled)

pub returns : goal.returns
returns g c =
    loaded_all (g.R.Row.stores c.args.row.now) (g.R.Row.stores c.loop-machine.row) (opening_values c.args.self.now.bytes.now) c.loop-machine.machine c.loop-machine.invariant (omega arith)
