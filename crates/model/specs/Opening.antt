-- Opening a register over a row of stores. Assumes nothing.
use Rattle.std.specs.Prelude.{ℕ, Bool, true, not, ◌||◌, List, [], ◌∷◌, length, replicate, ◌==◌, nat_lt, slice_index}
use Rattle.stores.specs.Rows.{StoreState, place_count, store_at}
use Rattle.model.specs.Checks.{Check, first, all_to}
use Rattle.model.specs.Docket.{blank}
use Rattle.model.specs.World.{World}

abbrev pub outside : ℕ → ℕ → ℕ → Bool
outside low high n = nat_lt n low || nat_lt high n

-- machine s against machine 0
abbrev pub same_counts : List StoreState → ℕ → Bool
same_counts stores s = length (store_at stores s).values == length (store_at stores 0).values

abbrev pub same_value : List StoreState → ℕ → ℕ → Bool
same_value stores s o = slice_index (store_at stores s).values o == slice_index (store_at stores 0).values o

abbrev pub same_values : List StoreState → ℕ → Bool
same_values stores s = all_to (length (store_at stores 0).values) (same_value stores s)

abbrev pub wrong_machine_count : List StoreState → Check
wrong_machine_count stores = (20, outside 1 8 (place_count stores))

abbrev pub wrong_object_counts : List StoreState → Check
wrong_object_counts stores =
    (21, outside 1 256 (length (store_at stores 0).values) || not (all_to (place_count stores) (same_counts stores)))

abbrev pub copies_differ : List StoreState → Check
copies_differ stores = (22, not (all_to (place_count stores) (same_values stores)))

-- 1 to 8 machines, each with the same 1 to 256 objects and the same values
abbrev pub opening_number : List StoreState → ℕ
opening_number stores = first (wrong_machine_count stores ∷ wrong_object_counts stores ∷ copies_differ stores ∷ [])

-- opening always gives a register, with all machines up and all transactions absent
abbrev pub opened : List StoreState → World
opened stores = record { opening = opening_number stores; docket = λ _. blank; up = replicate 8 true; stores = stores }
