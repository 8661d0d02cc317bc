-- What a journal store is to a caller. Assumes nothing.
use Rattle.std.specs.Prelude.{ℕ, List}
use Rattle.stores.specs.declared.entries.Entry.{Entry}

-- the base values, and the entries, oldest first
pub record JournalParts : Type 0 where
  pub base : List ℕ
  pub entries : List Entry
