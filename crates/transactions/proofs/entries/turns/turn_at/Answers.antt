use Rattle.std.proofs.Common.{arith}
use Rattle.std.proofs.lemmas.Grind.{common_steps}
use mathlib.Core.Path.{fun_ext}
use Rattle.transactions.proofs.entries.turns.turn_at.Goals as goal

pub returns : goal.returns
returns c = fun_ext (λ k. grind (arith, common_steps))
