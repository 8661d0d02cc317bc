-- What a register means. Assumes nothing.
use Rattle.std.specs.Prelude.{ℕ, min, Bool, false, List, length, slice_index_or}
use Rattle.stores.specs.Rows.{StoreState, place_count, store_at}
use Rattle.model.specs.Docket.{Docket}

-- opening is 0, or the number that the opening was refused with; up has a flag for each machine
pub record World : Type 0 where
  pub opening : ℕ
  pub docket : Docket
  pub up : List Bool
  pub stores : List StoreState

-- machine s has the store at place s; a register has at most eight machines, and one over a longer row refuses every call
abbrev pub machines : World → ℕ
machines w = min 8 (place_count w.stores)

-- the copy of machine s is the values of its store
abbrev pub copy : World → ℕ → List ℕ
copy w s = (store_at w.stores s).values

abbrev pub room : World → ℕ → ℕ
room w s = (store_at w.stores s).room

abbrev pub objects : World → ℕ
objects w = length (copy w 0)

abbrev pub is_up : World → ℕ → Bool
is_up w s = slice_index_or w.up s false
