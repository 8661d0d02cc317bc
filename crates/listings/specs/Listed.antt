-- The listing of a run file, over the stores that the listing program has. Assumes nothing.
use Rattle.std.specs.Prelude.{◌≡◌, ℕ, cond, List, [], Option, ◌==◌}
use Rattle.stores.specs.Mixed.{fresh_stores}
use Rattle.stores.specs.Rows.{StoreState}
use Rattle.model.specs.World.{World}
use Rattle.register.specs.declared.outcomes.Outcome.{Outcome}
use Rattle.runfile.specs.HeaderFormat.{machine_count, object_count}
use Rattle.runfile.specs.declared.faults.RunFault.{RunFault}
use Rattle.runs.specs.Running.{Finishes}
use Rattle.listings.specs.Text.{listing_text}

-- fresh stores for 1, 2 or 8 machines; for any other count there is no row
abbrev pub listing_stores : (machines objects : ℕ) → List StoreState
listing_stores machines objects =
    cond (machines == 1) (fresh_stores 1 objects)
    (cond (machines == 2) (fresh_stores 2 objects)
    (cond (machines == 8) (fresh_stores 8 objects) []))

-- the text lists what a run of the file over these stores came to
pub record Listed (stores : List StoreState) (file text : List ℕ) : Type 0 where
  pub outcomes : List Outcome
  pub fault : Option RunFault
  pub left : World
  pub run : Finishes stores file outcomes fault left
  pub lines : text ≡ listing_text outcomes fault

abbrev pub ListedFile : (file text : List ℕ) → Type 0
ListedFile file text = Listed (listing_stores (machine_count file) (object_count file)) file text
