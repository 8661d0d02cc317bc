-- Rows that alternate table stores and journal stores, a table store first. Assumes nothing.
use Rattle.std.specs.Prelude.{ℕ, zero, suc, List, [], ◌∷◌, ◌++◌, replicate}
use Rattle.stores.specs.declared.journals.JournalStore.{JournalStore}
use Rattle.stores.specs.declared.tables.TableStore.{TableStore}
use Rattle.stores.specs.declared.rows.One.{One}
use Rattle.stores.specs.declared.joins.Join.{Join}
use Rattle.stores.specs.Journals.{journal_values, journal_room}
use Rattle.stores.specs.Rows.{StoreState}
use Rattle.stores.specs.Tables.{table_values, table_room}

abbrev pub table_state : TableStore → StoreState
table_state s = record { values = table_values s; room = table_room s; floor = 1024 }

abbrev pub journal_state : JournalStore → StoreState
journal_state s = record { values = journal_values s; room = journal_room s; floor = 512 }

abbrev pub Single : Type 0
Single = One TableStore

abbrev pub Pair : Type 0
Pair = Join Single (One JournalStore)

abbrev pub Four : Type 0
Four = Join Pair Pair

abbrev pub Eight : Type 0
Eight = Join Four Four

abbrev pub single_stores : Single → List StoreState
single_stores row = table_state row.store ∷ []

abbrev pub pair_stores : Pair → List StoreState
pair_stores row = table_state row.first.store ∷ journal_state row.second.store ∷ []

abbrev pub four_stores : Four → List StoreState
four_stores row = pair_stores row.first ++ pair_stores row.second

abbrev pub eight_stores : Eight → List StoreState
eight_stores row = four_stores row.first ++ four_stores row.second

-- a store of zeros just made, a journal without entries
abbrev pub fresh_table : ℕ → StoreState
fresh_table objects = record { values = replicate objects 0; room = 1024; floor = 1024 }

abbrev pub fresh_journal : ℕ → StoreState
fresh_journal objects = record { values = replicate objects 0; room = 512; floor = 512 }

-- n stores, two by turns
abbrev pub alternating : ℕ → StoreState → StoreState → List StoreState
alternating zero a b = []
alternating (suc n) a b = a ∷ alternating n b a

-- n fresh stores, from a table store on by turns
abbrev pub fresh_stores : ℕ → ℕ → List StoreState
fresh_stores n objects = alternating n (fresh_table objects) (fresh_journal objects)
