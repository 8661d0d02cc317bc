-- What is played is stepped. Assumes nothing.
use Rattle.std.proofs.Common.{◌≡◌, ℕ, ◌<◌, true, false, eqb, List, [], ◌∷◌, length, set, sym, refl, ap, ◌∙◌, subst, inl, inr, arith}
use Rattle.std.proofs.lemmas.List.{get_or-set_same, get_or_past, set_past}
use Rattle.std.proofs.lemmas.Bool.{cases_lt, cond-true, cond-false, eq-eqb, ne_eqb}
use Rattle.stores.specs.Rows.{StoreState, TidyChange, no_store, store_at}
use Rattle.orders.specs.Rulebooks.{Rules}
use Rattle.model.specs.Calls.{Call, start, issue, begin, promise, decline, commit, abort, apply, drop, clear, down, up, tidy, read}
use Rattle.model.specs.Checks.{answer}
use Rattle.model.specs.Docket.{Entry, Docket}
use Rattle.model.specs.Examples.{ExamplesHold}
use Rattle.model.specs.Orders.{picked, replaced}
use Rattle.model.specs.Playing.{carried_out, tidied, stores_next, done, event_next, PlayedAsStepped}
use Rattle.model.specs.Steps.{Done, OrderChange, OneStore, StoresAfter, values_of}
use Rattle.model.specs.World.{World}

-- one store is set, or there is none to set
one_set : (before : List StoreState) (s : ℕ) (new : StoreState) (Change : StoreState → StoreState → Type 0) → (s < length before → Change (store_at before s) new) → Change no_store no_store
    → OneStore s before (set before s new) Change
one_set before s new Change within past = elim (cases_lt s (length before)) [
  | inl here ↦
      let same : store_at (set before s new) s ≡ new = get_or-set_same before s new no_store here in
      (ap (set before s) (sym same), subst (Change (store_at before s)) (sym same) (within here))
  | inr gone ↦
      let kept : set before s new ≡ before = set_past before s new gone in
      let none : store_at before s ≡ no_store = get_or_past before s no_store gone in (
        kept ∙ sym (set_past before s (store_at (set before s new) s) gone),
        subst (λ (x : StoreState). Change x (store_at (set before s new) s)) (sym none) (subst (Change no_store) (sym (ap (λ xs. store_at xs s) kept ∙ none)) past),
      )
]

replaced_none : (list news : List ℕ) → replaced [] list news ≡ []
replaced_none [] news = refl
replaced_none (o ∷ list) [] = refl
replaced_none (o ∷ list) (v ∷ news) = replaced_none list news

order_change : (rules : Rules) (e : Entry) (before : List StoreState) (s : ℕ) → OneStore s before (set before s (carried_out rules e (store_at before s))) (OrderChange rules e)
order_change rules e before s =
    one_set before s (carried_out rules e (store_at before s)) (OrderChange rules e)
    (λ here. record { values = refl; floor = refl; falls = omega arith })
    (record { values = sym (replaced_none e.objects (rules.news e.order (picked [] e.objects))); floor = refl; falls = omega arith })

tidy_change : (before : List StoreState) (s : ℕ) → OneStore s before (set before s (tidied (store_at before s))) TidyChange
tidy_change before s =
    one_set before s (tidied (store_at before s)) TidyChange
    (λ here. record { values = refl; floor = refl; room = omega arith })
    (record { values = refl; floor = refl; room = omega arith })

stores_are : (rules : Rules) (call : Call) (d : Docket) (before : List StoreState) → StoresAfter rules call d before (stores_next rules call d before)
stores_are rules (start t s list order) d before = refl
stores_are rules (issue t) d before = refl
stores_are rules (begin t s) d before = refl
stores_are rules (promise t s) d before = refl
stores_are rules (decline t s) d before = refl
stores_are rules (commit t) d before = order_change rules (d t) before (d t).coordinator
stores_are rules (abort t) d before = refl
stores_are rules (apply t s) d before = order_change rules (d t) before s
stores_are rules (drop t s) d before = refl
stores_are rules (clear t) d before = refl
stores_are rules (down s) d before = refl
stores_are rules (up s) d before = refl
stores_are rules (tidy s) d before = tidy_change before s
stores_are rules (read s list buffer) d before = refl

pub played_as_stepped : PlayedAsStepped
played_as_stepped rules call w = record {
  number = refl;
  refused = λ other.
      let idle : eqb (answer rules call w) 0 ≡ false = ne_eqb (answer rules call w) 0 other in
      (cond-false _ (done rules call w) w idle, cond-false _ (values_of call w) [] idle);
  accepted = λ zero.
      let yes : eqb (answer rules call w) 0 ≡ true = eq-eqb (answer rules call w) 0 zero in
      subst (λ (w' : World). Done rules call w (event_next rules call w).values w') (sym (cond-true _ (done rules call w) w yes))
      (subst (λ (vs : List ℕ). Done rules call w vs (done rules call w)) (sym (cond-true _ (values_of call w) [] yes))
      (record { opening = refl; docket = refl; up = refl; stores = stores_are rules call w.docket w.stores; values = refl }));
}

pub examples_hold : ExamplesHold
examples_hold = refl
