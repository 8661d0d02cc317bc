-- What the table of transactions means. Assumes nothing.
use Rattle.std.specs.Prelude.{List, Some, None, Option, slice_index_or}
use Rattle.model.specs.Docket.{Entry, Docket, blank}
use Rattle.transactions.specs.declared.entries.Transaction.{Transaction}
use Rattle.transactions.specs.declared.tables.Table.{Table}
use Rattle.transactions.specs.Entries.{entry_of}

-- an empty slot is an absent transaction
abbrev pub slot_entry : Option Transaction → Entry
slot_entry None = blank
slot_entry (Some x) = entry_of x

abbrev pub docket_in : List (Option Transaction) → Docket
docket_in slots t = slot_entry (slice_index_or slots t None)

abbrev pub table_docket : Table → Docket
table_docket table = docket_in table.slots
