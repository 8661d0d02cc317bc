-- What making a store answers: a store has at most 256 objects. Assumes nothing.
use Rattle.std.specs.Prelude.{ℕ, ◌<◌, ◌≤◌, Ok, Err, Result}
use Rattle.stores.specs.declared.traits.MakeError.{MakeError}
use Rattle.stores.specs.declared.traits.MakeError.TheVariants.{TooManyObjects, OutOfMemory}

-- more than 256 objects are refused, want of memory is reported, and what is made is as P says
abbrev pub Made : {S : Type 0} → ℕ → Result S MakeError → (S → Type 0) → Type 0
Made count (Ok s) P = (count ≤ 256) × P s
Made count (Err TooManyObjects) P = 256 < count
Made count (Err OutOfMemory) P = count ≤ 256
