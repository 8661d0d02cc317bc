-- Which lists of object numbers are lawful. Assumes nothing.
use Rattle.std.specs.Prelude.{ℕ, Bool, true, cond, not, ◌&&◌, ◌||◌, List, [], ◌∷◌, length, Some, None, Option, ◌==◌, nat_lt}
use Rattle.orders.specs.declared.faults.ListFault.{ListFault}
use Rattle.orders.specs.declared.faults.ListFault.TheVariants.{Length, Object, Order}
use Rattle.orders.specs.declared.list.ObjectList.{ObjectList}
use Rattle.orders.specs.Ascending.{ascending}
use Rattle.orders.specs.Fixed.{fixed_items}

abbrev pub list_fault_number : ListFault → ℕ
list_fault_number Length = 2
list_fault_number Object = 3
list_fault_number Order = 4

abbrev pub bad_length : List ℕ → Bool
bad_length xs = length xs == 0 || nat_lt 8 (length xs)

-- every object number is below the object count
abbrev pub all_below : ℕ → List ℕ → Bool
all_below count [] = true
all_below count (x ∷ xs) = nat_lt x count && all_below count xs

-- the first fault of a list over `count` objects, if it has one
abbrev pub list_fault : ℕ → List ℕ → Option ListFault
list_fault count xs =
    cond (bad_length xs) (Some Length)
    (cond (not (all_below count xs)) (Some Object)
    (cond (not (ascending xs)) (Some Order) None))

-- the objects of a list in the register's keeping
abbrev pub objects_of : ObjectList → List ℕ
objects_of l = fixed_items l.objects
