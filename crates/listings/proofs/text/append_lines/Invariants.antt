use Rattle.std.proofs.Common.{◌≡◌, ◌++◌, drop, string_bytes}
use Rattle.listings.specs.Text.{lines_from}
use Rattle.listings.proofs.text.append_lines.Given as goal

-- the text so far and the lines of the rest are the whole
abbrev pub invariant-loop-step : goal.invariant-loop-step
invariant-loop-step l = string_bytes l.text ++ lines_from l.step (drop l.step l.outcomes) ≡ string_bytes l.initial.text ++ lines_from 0 l.outcomes
