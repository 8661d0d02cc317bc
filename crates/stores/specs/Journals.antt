-- What a journal store means. Assumes nothing.
use Rattle.std.specs.Prelude.{ℕ, ◌-◌, List, length}
use Rattle.stores.specs.Entries.{written}
use Rattle.stores.specs.declared.journals.JournalStore.{JournalStore}

-- its base values with every entry written into them
abbrev pub journal_values : JournalStore → List ℕ
journal_values s = written s.entries s.base

-- 512 less the entries
abbrev pub journal_room : JournalStore → ℕ
journal_room s = 512 - length s.entries
