use Rattle.std.proofs.Common.{◌≡◌, ℕ, get_or, replicate, None, Option, arith}
use Rattle.std.proofs.lemmas.Grind.{common_steps}
use Rattle.std.proofs.lemmas.List.{get_or-replicate}
use Rattle.transactions.proofs.tables.no_slots.Goals as goal

all_none : {A : Type 0} (n t : ℕ) → ◌≡◌ {A = Option A} (get_or (replicate n None) t None) None
all_none n t = grind (arith, common_steps, get_or-replicate)

pub returns : goal.returns
returns c = all_none 64
