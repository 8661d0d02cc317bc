use Rattle.std.proofs.Common.{refl}
use Rattle.listings.proofs.Spaces.{put_value, put_values}
use Rattle.listings.proofs.text.SpacedDisplay.fmt.Goals as goal

pub loop-value-preserved : goal.loop-value-preserved
loop-value-preserved g c =
    put_value g.W.Write.write_str_gives c.args.f.now c.loop-value.f c.write.new.self c.args.self.now.values.now c.loop-value.value-index
    c.loop-value-test.true c.loop-value.invariant (λ plain. c.in_ok-write.ensures.writes plain refl)

pub returns-clause-writes : goal.returns-clause-writes
returns-clause-writes g c plain _ =
    put_values g.W.Write.write_str_gives c.args.f.now c.loop-value.f c.args.self.now.values.now c.loop-value.value-index
    c.loop-value-test.false c.loop-value.invariant plain
