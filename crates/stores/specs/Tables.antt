-- What a table store means. Assumes nothing.
use Rattle.std.specs.Prelude.{ℕ, List}
use Rattle.stores.specs.declared.tables.TableStore.{TableStore}

abbrev pub table_values : TableStore → List ℕ
table_values s = s

-- a write takes no room
abbrev pub table_room : TableStore → ℕ
table_room s = 1024
