-- A row of stores that are all alike. Assumes nothing.
use Rattle.std.specs.Prelude.{◌≡◌, ℕ, ◌<◌, ◌≤◌, min, Bool, true, false, cond, is_ok, Some, None, Err, Option, nat_lt, slice_set, refl}
use Rattle.std.specs.Bool.{then_some}
use Rattle.std.proofs.Common.{ap, sym, subst, ◌∙◌, arith}
use Rattle.std.proofs.lemmas.List.{length-replicate, get_or-replicate}
use Rattle.std.proofs.lemmas.Bool.{cond-true, cond-false, ltb-true, lt-ltb, le-ltb}
use Rattle.stores.specs.declared.traits.PutRefusal.TheVariants.{NoSuchObject}
use Rattle.stores.specs.Meaning.{value_at, put_answer}
use Rattle.stores.specs.Rows.{StoreState, PutChange, TidyChange, AmpleFloors, no_store, place_count, has_place, store_at, answer_at}
use Rattle.trials.specs.Bare.{bare, bare_row}

pub counted : (n : ℕ) → place_count (bare_row n) ≡ min 255 n
counted n = ap (min 255) (length-replicate n bare)

there : (n place : ℕ) → place < place_count (bare_row n) → store_at (bare_row n) place ≡ bare
there n place within = get_or-replicate n place bare no_store (omega (arith, counted n))

pub answers_there : {A : Type 0} (n place : ℕ) (ask : StoreState → A) → place < place_count (bare_row n) → answer_at (bare_row n) place ask ≡ Some (ask bare)
answers_there n place ask within = cond-true _ _ _ (lt-ltb _ _ within) ∙ ap (λ s. Some (ask s)) (there n place within)

-- an answer given at the places that the row has is the row's, if it is there
pub answers_all : {A : Type 0} (n place : ℕ) (ask : StoreState → A) (answer : A) (count : ℕ) (r : Option A)
    → r ≡ then_some (nat_lt place count) answer → count ≡ place_count (bare_row n)
    → (place < place_count (bare_row n) → Some answer ≡ answer_at (bare_row n) place ask) → r ≡ answer_at (bare_row n) place ask
answers_all n place ask answer count r given counted here =
    given ∙ ap (λ k. then_some (nat_lt place k) answer) counted ∙ at (has_place (bare_row n) place) refl
  where
    at : (b : Bool) → b ≡ has_place (bare_row n) place → then_some b answer ≡ answer_at (bare_row n) place ask
    at true e = here (ltb-true _ _ (sym e))
    at false e = sym (cond-false _ _ _ (sym e))

pub no_values : (n place object : ℕ) → cond (has_place (bare_row n) place) (value_at (store_at (bare_row n) place).values object) None ≡ None
no_values n place object = at (has_place (bare_row n) place) refl
  where
    at : (b : Bool) → b ≡ has_place (bare_row n) place → cond b (value_at (store_at (bare_row n) place).values object) None ≡ None
    at true e = ap (λ s. value_at s.values object) (there n place (ltb-true _ _ (sym e))) ∙ cond-false _ _ _ (le-ltb object 0 (omega arith))
    at false e = refl

no_object : (object : ℕ) → put_answer bare.values bare.room object ≡ Err NoSuchObject
no_object object = cond-false _ _ _ (le-ltb object 0 (omega arith))

pub put_refused : (n place object : ℕ) → place < place_count (bare_row n) → Some (Err NoSuchObject) ≡ answer_at (bare_row n) place (λ s. put_answer s.values s.room object)
put_refused n place object within =
    sym (answers_there n place (λ s. put_answer s.values s.room object) within ∙ ap Some (no_object object))

pub unchanged_put : (n place object value : ℕ) → has_place (bare_row n) place ≡ true → PutChange (store_at (bare_row n) place) object value (store_at (bare_row n) place)
unchanged_put n place object value here =
    subst (λ (s : StoreState). PutChange s object value s) (sym (there n place (ltb-true _ _ here)))
    (record { values = ap (λ r. cond (is_ok r) (slice_set bare.values object value) bare.values) (sym (no_object object)); floor = refl; refused = λ _. refl; falls = omega arith })

pub unchanged_tidy : (n place : ℕ) → has_place (bare_row n) place ≡ true → TidyChange (store_at (bare_row n) place) (store_at (bare_row n) place)
unchanged_tidy n place here =
    subst (λ (s : StoreState). TidyChange s s) (sym (there n place (ltb-true _ _ here))) (record { values = refl; floor = refl; room = omega arith })

pub floors : (n : ℕ) → AmpleFloors (bare_row n)
floors n place within =
    subst (λ (s : StoreState). 64 ≤ s.floor) (sym (get_or-replicate n place bare no_store (omega (arith, length-replicate n bare)))) (omega arith)
