-- A row of stores without objects, all alike. Assumes nothing.
use Rattle.std.specs.Prelude.{ℕ, List, [], replicate}
use Rattle.stores.specs.Rows.{StoreState}

abbrev pub bare : StoreState
bare = record { values = []; room = 64; floor = 64 }

abbrev pub bare_row : ℕ → List StoreState
bare_row n = replicate n bare
