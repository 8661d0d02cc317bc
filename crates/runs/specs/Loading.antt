-- Loading the opening values into every store. Assumes nothing.
use Rattle.std.specs.Prelude.{◌≡◌, ℕ, zero, suc, ◌<◌, List, length, slice_index}
use Rattle.stores.specs.Rows.{StoreState, WriteChange, store_at}

-- the first n values are written, one after the other, each with room made for it where there is none
abbrev pub FilledTo : List ℕ → ℕ → StoreState → StoreState → Type 0
FilledTo values zero before after = after ≡ before
FilledTo values (suc n) before after =
    (between : StoreState) × FilledTo values n before between × WriteChange between n (slice_index values n) after

-- every store of the row is filled
pub record Loaded (before : List StoreState) (values : List ℕ) (after : List StoreState) : Type 0 where
  pub count : length after ≡ length before
  pub each : (s : ℕ) → s < length before → FilledTo values (length values) (store_at before s) (store_at after s)
