use Rattle.std.proofs.Common.{◌≡◌, drop}
use Rattle.stores.specs.Entries.{written}
use Rattle.stores.proofs.entries.write_into.Given as goal

-- the entries that are left make of the table what all of them make of it at the start
abbrev pub invariant-loop-entry : goal.invariant-loop-entry
invariant-loop-entry l = written (drop l.entry-index l.entries) l.table.items ≡ written l.entries l.initial.table.items
