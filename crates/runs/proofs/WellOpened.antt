-- A row that was loaded is well opened, and has one copy. Assumes nothing.
use Rattle.std.proofs.Common.{◌≡◌, ℕ, zero, suc, ◌<◌, ◌≤◌, false, List, [], ◌∷◌, length, get_or, set, sym, refl, ap, ◌∙◌, subst, inl, inr, arith, length-set}
use Rattle.std.proofs.lemmas.List.{ext_get_or, get_or-set_same, get_or-set_other, length-replicate}
use Rattle.std.proofs.lemmas.Bool.{cases_eq, cond-false, eq-eqb, le-ltb, or_from, not_from_true, false≢true}
use Rattle.stores.specs.Rows.{StoreState, WriteChange, AmpleFloors, place_count, store_at}
use Rattle.stores.proofs.Written.{write_replaces}
use Rattle.model.specs.Histories.{History, Run}
use Rattle.model.specs.OneCopy.{OneCopy}
use Rattle.orders.specs.Rulebooks.{RulebookLaws}
use Rattle.model.specs.Checks.{Check, first}
use Rattle.model.specs.Opening.{outside, same_counts, same_value, same_values, wrong_machine_count, wrong_object_counts, copies_differ, opening_number, opened}
use Rattle.model.specs.World.{World}
use Rattle.model.proofs.Counts.{all_to_true}
use Rattle.model.proofs.Law.{law}
use Rattle.register.specs.Meaning.{no_orders}
use Rattle.runs.specs.Loading.{FilledTo, Loaded}

-- a store that is being filled has the first n values
record Holds (values : List ℕ) (n : ℕ) (before after : StoreState) : Type 0 where
  floor : after.floor ≡ before.floor
  count : length after.values ≡ length before.values
  front : (k : ℕ) → k < n → k < length before.values → get_or after.values k 0 ≡ get_or values k 0

write_floor : (before after : StoreState) (object value : ℕ) → WriteChange before object value after → after.floor ≡ before.floor
write_floor before after object value change =
    change.put.floor ∙ elim (cases_eq before.room 0) [
      | inl none ↦ (change.room.tidied none).floor
      | inr some ↦ ap (λ s. s.floor) (change.room.kept some)
    ]

holds_more : (values : List ℕ) (n : ℕ) (before between after : StoreState) → 64 ≤ before.floor → Holds values n before between → WriteChange between n (get_or values n 0) after → Holds values (suc n) before after
holds_more values n before between after ample so_far change =
    let replaced : after.values ≡ set between.values n (get_or values n 0) = write_replaces between after n (get_or values n 0) (omega (arith, so_far.floor)) change in
    record {
      floor = write_floor between after n (get_or values n 0) change ∙ so_far.floor;
      count = ap length replaced ∙ length-set between.values n (get_or values n 0) ∙ so_far.count;
      front = λ k below within. elim (cases_eq k n) [
        | inl e ↦
            ap (λ xs. get_or xs k 0) replaced
            ∙ ap (λ j. get_or (set between.values n (get_or values n 0)) j 0) e
            ∙ get_or-set_same between.values n (get_or values n 0) 0 (omega (arith, so_far.count))
            ∙ ap (λ j. get_or values j 0) (sym e)
        | inr apart ↦
            let before_n : k < n = omega arith in
            ap (λ xs. get_or xs k 0) replaced ∙ get_or-set_other between.values n k (get_or values n 0) 0 apart ∙ so_far.front k before_n within
      ];
    }

filled_holds : (values : List ℕ) (n : ℕ) (before after : StoreState) → 64 ≤ before.floor → FilledTo values n before after → Holds values n before after
filled_holds values zero before after ample e = record {
  floor = ap (λ s. s.floor) e;
  count = ap (λ s. length s.values) e;
  front = λ k below within. absurd (omega arith);
}
filled_holds values (suc n) before after ample (between, filled, change) =
    holds_more values n before between after ample (filled_holds values n before between ample filled) change

-- every store holds the values that were loaded
pub loaded_values : (before after : List StoreState) (values : List ℕ) → AmpleFloors before → Loaded before values after → (s : ℕ) → s < length before → length (store_at before s).values ≡ length values
    → (store_at after s).values ≡ values
loaded_values before after values ample loaded s within same =
    let holds = filled_holds values (length values) (store_at before s) (store_at after s) (ample s within) (loaded.each s within) in
    ext_get_or 0 _ _ (holds.count ∙ same) (λ k below. holds.front k (omega (arith, holds.count)) (omega (arith, holds.count)))

first_over : (check : Check) (rest : List Check) → check.1 ≡ false → first (check ∷ rest) ≡ first rest
first_over check rest passes = cond-false _ _ _ passes

inside : (low high n : ℕ) → low ≤ n → n ≤ high → outside low high n ≡ false
inside low high n above below = or_from _ _ (le-ltb _ _ above) (le-ltb _ _ below)

pub well_opened : (stores : List StoreState) (values : List ℕ) → 1 ≤ place_count stores → place_count stores ≤ 8 → 1 ≤ length values → length values ≤ 256
    → ((s : ℕ) → s < place_count stores → (store_at stores s).values ≡ values) → opening_number stores ≡ 0
well_opened stores values some few some' few' alike =
    let zeroth : (store_at stores 0).values ≡ values = alike 0 (omega arith) in
    let long : length (store_at stores 0).values ≡ length values = ap length zeroth in
    first_over (wrong_machine_count stores) (wrong_object_counts stores ∷ copies_differ stores ∷ []) (inside 1 8 (place_count stores) some few)
    ∙ first_over (wrong_object_counts stores) (copies_differ stores ∷ [])
    (or_from _ _ (inside 1 256 (length (store_at stores 0).values) (omega arith) (omega arith))
    (not_from_true _ (all_to_true (place_count stores) (same_counts stores) (λ s within. eq-eqb _ _ (ap length (alike s within ∙ sym zeroth))))))
    ∙ first_over (copies_differ stores) []
    (not_from_true _ (all_to_true (place_count stores) (same_values stores) (λ s within.
    all_to_true (length (store_at stores 0).values) (same_value stores s) (λ o below. eq-eqb _ _ (ap (λ xs. get_or xs o 0) (alike s within ∙ sym zeroth))))))

-- a rulebook without orders is a rulebook
no_orders_lawful : RulebookLaws no_orders.lawful no_orders.mask no_orders.news
no_orders_lawful = record {
  mask_has_each_position = λ order n. length-replicate n false;
  lawful_order_writes = λ order n lawful. absurd (false≢true lawful);
  as_many_news_as_olds = λ order olds. refl;
  unwritten_keeps_its_value = λ order olds lawful p unwritten. refl;
  news_fit_where_olds_fit = λ order olds lawful fit. fit;
}

pub loaded_one_copy : (stores : List StoreState) (values : List ℕ) (history : History) (w : World) → opening_number stores ≡ 0 → (store_at stores 0).values ≡ values → Run no_orders (opened stores) history w
    → OneCopy no_orders values history w
loaded_one_copy stores values history w well zeroth run =
    subst (λ (vs : List ℕ). OneCopy no_orders vs history w) zeroth ((law no_orders no_orders_lawful stores history w run).kept well)
