-- Reads of a place that is there. Assumes nothing.
use Rattle.std.proofs.Common.{◌≡◌, ℕ, ◌<◌, cond, List, length, get_or, Some, None, unwrap_or, sym, ap, ◌∙◌, inl, inr}
use Rattle.std.proofs.lemmas.List.{get_or_past}
use Rattle.std.proofs.lemmas.Bool.{cases_lt, lt-ltb, le-ltb}
use Rattle.stores.specs.Meaning.{value_at}
use Rattle.stores.specs.Rows.{StoreState, place_count, has_place, store_at}

value_or_zero : (values : List ℕ) (object : ℕ) → unwrap_or (value_at values object) 0 ≡ get_or values object 0
value_or_zero values object =
    elim (cases_lt object (length values)) [
      | inl within ↦ ap (λ b. unwrap_or (cond b (Some (get_or values object 0)) None) 0) (lt-ltb _ _ within)
      | inr past ↦ ap (λ b. unwrap_or (cond b (Some (get_or values object 0)) None) 0) (le-ltb _ _ past) ∙ sym (get_or_past values object 0 past)
    ]

pub row_value_or_zero : (stores : List StoreState) (machine object : ℕ) → machine < place_count stores
    → unwrap_or (cond (has_place stores machine) (value_at (store_at stores machine).values object) None) 0 ≡ get_or (store_at stores machine).values object 0
row_value_or_zero stores machine object within =
    ap (λ b. unwrap_or (cond b (value_at (store_at stores machine).values object) None) 0) (lt-ltb _ _ within)
    ∙ value_or_zero (store_at stores machine).values object
