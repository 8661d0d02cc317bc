-- What a replica store means, and what its operations answer. Assumes nothing.
use Rattle.std.specs.Prelude.{ℕ, cond, List, length, is_ok, Some, None, Ok, Err, Option, Result, ◌==◌, nat_lt, slice_index, slice_set}
use Rattle.stores.specs.declared.traits.PutRefusal.{PutRefusal}
use Rattle.stores.specs.declared.traits.PutRefusal.TheVariants.{NoSuchObject, NoRoom}

-- a value is refused exactly when the object number is not below the count
abbrev pub value_at : List ℕ → ℕ → Option ℕ
value_at values object = cond (nat_lt object (length values)) (Some (slice_index values object)) None

-- a put is refused for its object first, then for want of room
abbrev pub put_answer : List ℕ → ℕ → ℕ → Result (Unit {0}) PutRefusal
put_answer values room object = cond (nat_lt object (length values)) (cond (room == 0) (Err NoRoom) (Ok tt)) (Err NoSuchObject)

-- an accepted put replaces one value, a refused one none
abbrev pub values_after_put : List ℕ → ℕ → ℕ → ℕ → List ℕ
values_after_put values room object value = cond (is_ok (put_answer values room object)) (slice_set values object value) values
