-- One way to carry out calls, so that examples can be computed: each write takes one of the room, and a tidy restores
-- the floor. Every step of it is a step of the register. Assumes nothing.
use Rattle.std.specs.Prelude.{ℕ, ◌-◌, max, cond, List, [], ◌∷◌, ◌==◌, slice_set}
use Rattle.stores.specs.Rows.{StoreState, store_at}
use Rattle.orders.specs.Rulebooks.{Rules}
use Rattle.model.specs.Calls.{Call, start, issue, begin, promise, decline, commit, abort, apply, drop, clear, down, up, tidy, read}
use Rattle.model.specs.Checks.{answer}
use Rattle.model.specs.Docket.{Entry, Docket}
use Rattle.model.specs.Orders.{renewed, writes}
use Rattle.model.specs.Steps.{Event, Step, docket_after, up_after, values_of}
use Rattle.model.specs.World.{World}

abbrev pub carried_out : Rules → Entry → StoreState → StoreState
carried_out rules e store = record { values = renewed rules e.objects e.order store.values; room = store.room - writes rules e; floor = store.floor }

abbrev pub tidied : StoreState → StoreState
tidied store = record { values = store.values; room = max store.room store.floor; floor = store.floor }

abbrev pub stores_next : Rules → Call → Docket → List StoreState → List StoreState
stores_next rules (start t s list order) d stores = stores
stores_next rules (issue t) d stores = stores
stores_next rules (begin t s) d stores = stores
stores_next rules (promise t s) d stores = stores
stores_next rules (decline t s) d stores = stores
stores_next rules (commit t) d stores = slice_set stores (d t).coordinator (carried_out rules (d t) (store_at stores (d t).coordinator))
stores_next rules (abort t) d stores = stores
stores_next rules (apply t s) d stores = slice_set stores s (carried_out rules (d t) (store_at stores s))
stores_next rules (drop t s) d stores = stores
stores_next rules (clear t) d stores = stores
stores_next rules (down s) d stores = stores
stores_next rules (up s) d stores = stores
stores_next rules (tidy s) d stores = slice_set stores s (tidied (store_at stores s))
stores_next rules (read s list buffer) d stores = stores

abbrev pub done : Rules → Call → World → World
done rules call w = record {
  opening = w.opening;
  docket = docket_after call w.docket;
  up = up_after call w.up;
  stores = stores_next rules call w.docket w.stores;
}

abbrev pub world_next : Rules → Call → World → World
world_next rules call w = cond (answer rules call w == 0) (done rules call w) w

abbrev pub event_next : Rules → Call → World → Event
event_next rules call w = record { call = call; number = answer rules call w; values = cond (answer rules call w == 0) (values_of call w) [] }

-- what each call answers, its number and the values that it gives
abbrev pub played : Rules → World → List Call → List (List ℕ)
played rules w [] = []
played rules w (call ∷ calls) = ((event_next rules call w).number ∷ (event_next rules call w).values) ∷ played rules (world_next rules call w) calls

abbrev pub PlayedAsStepped : Type 0
PlayedAsStepped = (rules : Rules) (call : Call) (w : World) → Step rules w (event_next rules call w) (world_next rules call w)
