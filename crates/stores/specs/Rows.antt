-- What a row of stores means: a list of stores, by what each means. Assumes nothing.
use Rattle.std.specs.Prelude.{◌≡◌, ℕ, ◌+◌, ◌<◌, ◌≤◌, min, max, Bool, false, cond, List, [], length, is_ok, Some, None, Option, ◌≢◌, nat_lt, slice_index_or, slice_set}
use Rattle.stores.specs.Meaning.{put_answer, values_after_put}

-- one store: its values, its room, and the floor of its kind
pub record StoreState : Type 0 where
  pub values : List ℕ
  pub room : ℕ
  pub floor : ℕ

-- what stands past a row's end
abbrev pub no_store : StoreState
no_store = record { values = []; room = 0; floor = 0 }

-- a row of more than 255 stores says 255
abbrev pub place_count : List StoreState → ℕ
place_count stores = min 255 (length stores)

abbrev pub has_place : List StoreState → ℕ → Bool
has_place stores place = nat_lt place (place_count stores)

abbrev pub store_at : List StoreState → ℕ → StoreState
store_at stores place = slice_index_or stores place no_store

-- a place that the row has not is refused; else the store there answers
abbrev pub answer_at : {A : Type 0} → List StoreState → ℕ → (StoreState → A) → Option A
answer_at stores place ask = cond (has_place stores place) (Some (ask (store_at stores place))) None

-- the store at that place is another, if there is one
abbrev pub with_store : List StoreState → ℕ → StoreState → List StoreState
with_store stores place store = cond (has_place stores place) (slice_set stores place store) stores

-- no store but the one at that place is changed
abbrev pub ChangesOnlyAt : List StoreState → ℕ → List StoreState → Type 0
ChangesOnlyAt before place after = after ≡ with_store before place (store_at after place)

-- what a put may do to a store
pub record PutChange (before : StoreState) (object value : ℕ) (after : StoreState) : Type 0 where
  pub values : after.values ≡ values_after_put before.values before.room object value
  pub floor : after.floor ≡ before.floor
  pub refused : is_ok (put_answer before.values before.room object) ≡ false → after.room ≡ before.room
  pub falls : before.room ≤ after.room + 1

-- what a tidy may do to a store
pub record TidyChange (before after : StoreState) : Type 0 where
  pub values : after.values ≡ before.values
  pub floor : after.floor ≡ before.floor
  pub room : max before.room before.floor ≤ after.room

-- what making room may do to a store: it is tidied exactly where its room is 0
pub record RoomChange (before after : StoreState) : Type 0 where
  pub tidied : before.room ≡ 0 → TidyChange before after
  pub kept : (before.room ≢ 0) → after ≡ before

-- what a write that never fails may do to a store: room is made, and then the value is put
pub record WriteChange (before : StoreState) (object value : ℕ) (after : StoreState) : Type 0 where
  pub ready : StoreState
  pub room : RoomChange before ready
  pub put : PutChange ready object value after

-- every kind of store states a floor of at least 64
abbrev pub AmpleFloors : List StoreState → Type 0
AmpleFloors stores = (place : ℕ) → place < length stores → 64 ≤ (store_at stores place).floor
