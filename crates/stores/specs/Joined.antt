-- Two joined rows: a place lies in the first or, after all of those, in the second. Assumes nothing.
use Rattle.std.specs.Prelude.{◌≡◌, ℕ, ◌+◌, ◌-◌, ◌<◌, ◌≤◌, min, List, ◌++◌, length, Some, refl}
use Rattle.std.proofs.Common.{sym, subst, arith, length-append}
use Rattle.std.proofs.lemmas.Grind.{common_steps}
use Rattle.std.proofs.lemmas.List.{get_or_append_left, get_or-append_right, set-append_left, set-append_right}
use Rattle.stores.specs.declared.joins.Side.TheVariants.{First, Second}
use Rattle.stores.specs.Rows.{StoreState, AmpleFloors, no_store, place_count, store_at, with_store}
use Rattle.stores.specs.Sides.{Lies}

pub counts_add : (a b : List StoreState) → min (place_count a + place_count b) 255 ≡ place_count (a ++ b)
counts_add a b = omega (arith, length-append a b)

pub lies_first : (a b : List StoreState) (place : ℕ) → place < place_count a → Lies a b place (Some (First place))
lies_first a b place within = (refl, grind (arith, length-append a b), grind arith, grind (arith, get_or_append_left a b no_store place))

pub lies_second : (a b : List StoreState) (place : ℕ) → place_count a ≤ place → place < place_count (a ++ b) → Lies a b place (Some (Second (place - place_count a)))
lies_second a b place past within =
    let exact : length a ≡ place_count a = omega (arith, length-append a b) in
    (omega arith, grind arith, grind (arith, length-append a b), get_or-append_right a b (place_count a) place no_store exact past)

-- what both rows keep, the joined row keeps
pub floors_join : (a b : List StoreState) → AmpleFloors a → AmpleFloors b → AmpleFloors (a ++ b)
floors_join a b ample ample' place within =
    grind (arith, ample place, ample' (place - length a), length-append a b, get_or_append_left a b no_store place, get_or-append_right a b (length a) place no_store refl)

-- a change of one store of the first row is one of the joined row
pub change_first : (a a' b : List StoreState) (place : ℕ) → Lies a b place (Some (First place)) → a' ≡ with_store a place (store_at a' place)
    → (store_at (a' ++ b) place ≡ store_at a' place) × (a' ++ b ≡ with_store (a ++ b) place (store_at (a' ++ b) place))
change_first a a' b place lies others = (grind (arith, common_steps, get_or_append_left a' b no_store place), grind (arith, common_steps, set-append_left a b place (store_at a' place)))

pub change_second : (a b b' : List StoreState) (place p : ℕ) → Lies a b place (Some (Second p)) → b' ≡ with_store b p (store_at b' p)
    → (store_at (a ++ b') place ≡ store_at b' p) × (a ++ b' ≡ with_store (a ++ b) place (store_at (a ++ b') place))
change_second a b b' place p lies others = (grind (arith, common_steps, get_or-append_right a b' (length a) place no_store refl), grind (arith, common_steps, set-append_right a b (length a) place (store_at b' p) refl))

-- what holds of two stores holds of the same stores found elsewhere
pub moved : (P : StoreState → StoreState → Type 0) {x x' y y' : StoreState} → x ≡ x' → y ≡ y' → P x' y' → P x y
moved P {x} {x'} {y} {y'} e e' p =
    subst (λ (s : StoreState). P s y) (sym e) (subst (λ (s : StoreState). P x' s) (sym e') p)
