-- What a register is to a caller. Assumes nothing.
use Rattle.std.specs.Prelude.{Bool, List, Result}
use Rattle.register.specs.declared.refusals.Refusal.{Refusal}

-- whether it was well opened, or why not; a flag for each machine; and the row of its stores
pub record RegisterState (R : Type 0) : Type 0 where
  pub opened : Result (Unit {0}) Refusal
  pub up : List Bool
  pub row : R
