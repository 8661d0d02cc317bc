-- What a transaction of the table means. Assumes nothing.
use Rattle.std.specs.Prelude.{ℕ, Bool, ◌&&◌, List, slice_index_or}
use Rattle.model.specs.declared.statuses.Status.{Status}
use Rattle.orders.specs.Kept.{order_bytes}
use Rattle.orders.specs.Lists.{objects_of}
use Rattle.model.specs.declared.statuses.Status.TheVariants.{None as no_status}
use Rattle.model.specs.Docket.{Entry}
use Rattle.model.specs.Orders.{listed, overlap}
use Rattle.model.specs.Statuses.{is_holding}
use Rattle.transactions.specs.declared.entries.Transaction.{Transaction}

-- the status at each machine
abbrev pub status_in : List Status → ℕ → Status
status_in statuses k = slice_index_or statuses k no_status

abbrev pub entry_of : Transaction → Entry
entry_of x = record {
  standing = x.standing;
  coordinator = x.coordinator;
  objects = objects_of x.objects;
  order = order_bytes x.order;
  status = status_in x.statuses;
}

-- whether a transaction holds an object of the list at the machine
abbrev pub holds_in : Entry → ℕ → List ℕ → Bool
holds_in e s list = is_holding (e.status s) && overlap e.objects list

-- whether it holds this object there
abbrev pub holds_object : Entry → ℕ → ℕ → Bool
holds_object e s object = is_holding (e.status s) && listed object e.objects
