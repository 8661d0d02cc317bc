use Rattle.std.proofs.Common.{◌≡◌, ℕ, sym, refl, ◌∙◌, subst, arith}
use Rattle.runfile.specs.HeaderFormat.{opening_values}
use Rattle.runfile.proofs.Values.{getD_opening_values}
use Rattle.stores.specs.Rows.{store_at}
use Rattle.stores.proofs.Written.{with_same, with_twice, has_place_kept}
use Rattle.runs.specs.Loading.{FilledTo}
use Rattle.runs.proofs.Filled.{filled_more}
use Rattle.runs.proofs.sound.SoundFile.load_store.Goals as goal

pub loop-object-init : goal.loop-object-init
loop-object-init g c = (with_same (g.R.Row.stores c.args.row.now) c.args.machine, refl)

pub loop-object-preserved : goal.loop-object-preserved
loop-object-preserved g c =
    let before = g.R.Row.stores c.args.row.now in
    let now = g.R.Row.stores c.loop-object.row in
    let next = g.R.Row.stores c.write.new.row in
    let machine = c.args.machine in (
      with_twice before now next machine c.loop-object.invariant.0 c.write.ensures.others,
      filled_more (opening_values c.args.self.now.bytes.now) c.loop-object.object (store_at before machine) (store_at now machine) (store_at next machine) c.opening_value.result
          c.loop-object.invariant.1
          (c.opening_value.ensures ∙ sym (getD_opening_values c.args.self.now.bytes.now c.loop-object.object (omega arith)))
          (c.write.ensures.change (has_place_kept before now machine c.loop-object.invariant.0 ∙ c.requires)),
    )

pub returns : goal.returns
returns g c =
    let whole : c.loop-object.object ≡ c.args.self.now.header.objects = omega arith in
    record {
      others = c.loop-object.invariant.0;
      filled = subst (λ (n : ℕ). FilledTo (opening_values c.args.self.now.bytes.now) n (store_at (g.R.Row.stores c.args.row.now) c.args.machine) (store_at (g.R.Row.stores c.loop-object.row) c.args.machine)) whole c.loop-object.invariant.1;
    }
