-- Room is made where there is none, and then a write is not refused. Assumes nothing.
use Rattle.std.proofs.Common.{◌≡◌, ℕ, ◌≤◌, ◌≢◌, List, length, set, arith, length-set}
use Rattle.std.proofs.lemmas.Grind.{common_steps}
use Rattle.std.proofs.lemmas.List.{set-get_or, set-set, set_past}
use Rattle.stores.specs.Meaning.{values_after_put}
use Rattle.stores.specs.Rows.{StoreState, WriteChange, no_store, has_place, store_at, with_store}

-- nothing changed, in these words
pub with_same : (stores : List StoreState) (place : ℕ) → stores ≡ with_store stores place (store_at stores place)
with_same stores place = grind (arith, common_steps, set-get_or stores place no_store)

length_with : (stores : List StoreState) (place : ℕ) (store : StoreState) → length (with_store stores place store) ≡ length stores
length_with stores place store = grind (arith, length-set)

-- a place stays, however its store changes
pub has_place_kept : (a b : List StoreState) (place : ℕ) → b ≡ with_store a place (store_at b place) → has_place b place ≡ has_place a place
has_place_kept a b place change = grind (arith, length_with a place (store_at b place))

-- two changes of one store are one
pub with_twice : (a b c : List StoreState) (place : ℕ) → b ≡ with_store a place (store_at b place) → c ≡ with_store b place (store_at c place)
    → c ≡ with_store a place (store_at c place)
with_twice a b c place first second = grind (arith, common_steps, has_place_kept a b place first, set-set)

-- where there is room, a put replaces the value, if the object is there
put_replaces : (values : List ℕ) (room object value : ℕ) → (room ≢ 0) → values_after_put values room object value ≡ set values object value
put_replaces values room object value some = grind (arith, common_steps, set_past)

pub write_replaces : (before after : StoreState) (object value : ℕ) → 64 ≤ before.floor → WriteChange before object value after
    → after.values ≡ set before.values object value
write_replaces before after object value ample change = grind (arith, put_replaces change.ready.values change.ready.room object value, change.room, change.put)
