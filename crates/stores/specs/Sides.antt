-- Where a place of two joined rows lies. Assumes nothing.
use Rattle.std.specs.Prelude.{◌≡◌, ℕ, ◌+◌, true, false, List, ◌++◌, length, Option, Some, None}
use Rattle.stores.specs.declared.joins.Join.{Join}
use Rattle.stores.specs.declared.joins.Side.{Side}
use Rattle.stores.specs.declared.joins.Side.TheVariants.{First, Second}
use Rattle.stores.specs.Rows.{StoreState, has_place, store_at}

-- the stores of the second row are numbered after those of the first
abbrev pub joined : {A B : Type 0} → (A → List StoreState) → (B → List StoreState) → Join A B → List StoreState
joined stores stores' row = stores row.first ++ stores' row.second

-- the place is one of the first row, or after all of them one of the second
abbrev pub Lies : List StoreState → List StoreState → ℕ → Option Side → Type 0
Lies first second place (Some (First p)) =
    (p ≡ place) × (has_place (first ++ second) place ≡ true) × (has_place first p ≡ true)
    × (store_at (first ++ second) place ≡ store_at first p)
Lies first second place (Some (Second p)) =
    (length first + p ≡ place) × (has_place (first ++ second) place ≡ true) × (has_place second p ≡ true)
    × (store_at (first ++ second) place ≡ store_at second p)
Lies first second place None = has_place (first ++ second) place ≡ false
