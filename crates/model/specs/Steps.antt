-- What a call leaves of the register, and what it gives back. Assumes nothing.
use Rattle.std.specs.Prelude.{◌≡◌, ℕ, ◌+◌, ◌≤◌, Bool, true, false, List, [], ◌≢◌, slice_set}
use Rattle.stores.specs.Rows.{StoreState, TidyChange, store_at}
use Rattle.orders.specs.Rulebooks.{Rules}
use Rattle.model.specs.declared.statuses.Standing.TheVariants.{Pending as Undecided, Committed, Aborted}
use Rattle.model.specs.declared.statuses.Status.TheVariants.{None, Pending, Promised, Applied, Dropped}
use Rattle.model.specs.Calls.{Call, start, issue, begin, promise, decline, commit, abort, apply, drop, clear, down, up, tidy, read}
use Rattle.model.specs.Checks.{answer}
use Rattle.model.specs.Docket.{Entry, Docket, at, blank, moved, with_status, raised}
use Rattle.model.specs.Orders.{picked, renewed, writes}
use Rattle.model.specs.World.{World, copy}

-- a call that was made, its answer number, and the values that a read gave
pub record Event : Type 0 where
  pub call : Call
  pub number : ℕ
  pub values : List ℕ

-- a transaction just started, with status none at every machine
abbrev pub started : ℕ → List ℕ → List ℕ → Entry
started s list order = record { standing = Undecided; coordinator = s; objects = list; order = order; status = λ _. None }

-- what an accepted call leaves of the docket
abbrev pub docket_after : Call → Docket → Docket
docket_after (start t s list order) d = at d t (started s list order)
docket_after (issue t) d = with_status d t (d t).coordinator Promised
docket_after (begin t s) d = with_status d t s Pending
docket_after (promise t s) d = with_status d t s Promised
docket_after (decline t s) d = with_status d t s Dropped
docket_after (commit t) d = at d t (moved (d t) Committed (d t).coordinator Applied)
docket_after (abort t) d = at d t (moved (d t) Aborted (d t).coordinator Dropped)
docket_after (apply t s) d = with_status d t s Applied
docket_after (drop t s) d = with_status d t s Dropped
docket_after (clear t) d = at d t blank
docket_after (down s) d = d
docket_after (up s) d = raised d s
docket_after (tidy s) d = d
docket_after (read s list buffer) d = d

-- what it leaves of the machines' flags
abbrev pub up_after : Call → List Bool → List Bool
up_after (start t s list order) flags = flags
up_after (issue t) flags = flags
up_after (begin t s) flags = flags
up_after (promise t s) flags = flags
up_after (decline t s) flags = flags
up_after (commit t) flags = flags
up_after (abort t) flags = flags
up_after (apply t s) flags = flags
up_after (drop t s) flags = flags
up_after (clear t) flags = flags
up_after (down s) flags = slice_set flags s false
up_after (up s) flags = slice_set flags s true
up_after (tidy s) flags = flags
up_after (read s list buffer) flags = flags

-- the order of a transaction is carried out on one copy; the store's room falls by at most the writes
pub record OrderChange (rules : Rules) (e : Entry) (before after : StoreState) : Type 0 where
  pub values : after.values ≡ renewed rules e.objects e.order before.values
  pub floor : after.floor ≡ before.floor
  pub falls : before.room ≤ after.room + writes rules e

-- one store is changed, and no other
abbrev pub OneStore : ℕ → List StoreState → List StoreState → (StoreState → StoreState → Type 0) → Type 0
OneStore s before after Change = (after ≡ slice_set before s (store_at after s)) × Change (store_at before s) (store_at after s)

-- a commit writes at the coordinator alone, an apply at its machine, each from that machine's own copy
abbrev pub StoresAfter : Rules → Call → Docket → List StoreState → List StoreState → Type 0
StoresAfter rules (start t s list order) d before after = after ≡ before
StoresAfter rules (issue t) d before after = after ≡ before
StoresAfter rules (begin t s) d before after = after ≡ before
StoresAfter rules (promise t s) d before after = after ≡ before
StoresAfter rules (decline t s) d before after = after ≡ before
StoresAfter rules (commit t) d before after = OneStore (d t).coordinator before after (OrderChange rules (d t))
StoresAfter rules (abort t) d before after = after ≡ before
StoresAfter rules (apply t s) d before after = OneStore s before after (OrderChange rules (d t))
StoresAfter rules (drop t s) d before after = after ≡ before
StoresAfter rules (clear t) d before after = after ≡ before
StoresAfter rules (down s) d before after = after ≡ before
StoresAfter rules (up s) d before after = after ≡ before
StoresAfter rules (tidy s) d before after = OneStore s before after TidyChange
StoresAfter rules (read s list buffer) d before after = after ≡ before

-- what it gives back: a read gives the values of the copy at the listed objects
abbrev pub values_of : Call → World → List ℕ
values_of (start t s list order) w = []
values_of (issue t) w = []
values_of (begin t s) w = []
values_of (promise t s) w = []
values_of (decline t s) w = []
values_of (commit t) w = []
values_of (abort t) w = []
values_of (apply t s) w = []
values_of (drop t s) w = []
values_of (clear t) w = []
values_of (down s) w = []
values_of (up s) w = []
values_of (tidy s) w = []
values_of (read s list buffer) w = picked (copy w s) list

-- an accepted call
pub record Done (rules : Rules) (call : Call) (w : World) (given : List ℕ) (w' : World) : Type 0 where
  pub opening : w'.opening ≡ w.opening
  pub docket : w'.docket ≡ docket_after call w.docket
  pub up : w'.up ≡ up_after call w.up
  pub stores : StoresAfter rules call w.docket w.stores w'.stores
  pub values : given ≡ values_of call w

-- a call answers the first check that fails and then changes nothing; else it is done
pub record Step (rules : Rules) (w : World) (event : Event) (w' : World) : Type 0 where
  pub number : event.number ≡ answer rules event.call w
  pub refused : (event.number ≢ 0) → (w' ≡ w) × (event.values ≡ [])
  pub accepted : event.number ≡ 0 → Done rules event.call w event.values w'
