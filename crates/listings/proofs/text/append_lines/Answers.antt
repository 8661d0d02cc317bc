use Rattle.std.proofs.Common.{string_bytes}
use Rattle.listings.proofs.Lines.{line_more, lines_all}
use Rattle.listings.proofs.text.append_lines.Goals as goal

pub loop-step-preserved : goal.loop-step-preserved
loop-step-preserved c =
    line_more (string_bytes c.loop-step.text) (string_bytes c.write.new.self) _ c.args.outcomes.now c.loop-step.step c.index-outcomes-step.result
    c.loop-step-test.true c.index-outcomes-step.is c.in_ok-write.ensures.bytes c.loop-step.invariant

pub returns : goal.returns
returns c = lines_all (string_bytes c.loop-step.text) _ c.args.outcomes.now c.loop-step.step c.loop-step-test.false c.loop-step.invariant
