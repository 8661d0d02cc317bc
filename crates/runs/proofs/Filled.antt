-- Filling one store after the other. Assumes nothing.
use Rattle.std.proofs.Common.{◌≡◌, ℕ, ◌+◌, ◌<◌, ◌≤◌, true, ◌≢◌, List, length, get_or, set, sym, refl, ap, ◌∙◌, subst, inl, inr, add-one, arith, length-set}
use Rattle.std.proofs.lemmas.List.{get_or-set_other}
use Rattle.std.proofs.lemmas.Bool.{cond-true, cases_eq}
use Rattle.stores.specs.Rows.{StoreState, WriteChange, no_store, has_place, store_at, with_store}
use Rattle.runs.specs.Loading.{FilledTo, Loaded}

-- one value more
pub filled_more : (values : List ℕ) (n : ℕ) (before between after : StoreState) (value : ℕ) → FilledTo values n before between → value ≡ get_or values n 0 → WriteChange between n value after
    → FilledTo values (n + 1) before after
filled_more values n before between after value so_far same write =
    subst (λ (m : ℕ). FilledTo values m before after) (sym (add-one n))
    (between, so_far, subst (λ (v : ℕ). WriteChange between n v after) same write)

-- the stores before the one at m are filled, the others as they were
pub record LoadedTo (before : List StoreState) (values : List ℕ) (m : ℕ) (after : List StoreState) : Type 0 where
  pub count : length after ≡ length before
  pub done : (s : ℕ) → s < m → FilledTo values (length values) (store_at before s) (store_at after s)
  pub rest : (s : ℕ) → m ≤ s → store_at after s ≡ store_at before s

pub loaded_none : (before : List StoreState) (values : List ℕ) → LoadedTo before values 0 before
loaded_none before values = record { count = refl; done = λ s h. absurd (omega arith); rest = λ s h. refl }

pub loaded_more : (before now next : List StoreState) (values : List ℕ) (m : ℕ) → LoadedTo before values m now → has_place now m ≡ true → next ≡ with_store now m (store_at next m)
    → FilledTo values (length values) (store_at now m) (store_at next m) → LoadedTo before values (m + 1) next
loaded_more before now next values m so_far here others filled =
    let written : next ≡ set now m (store_at next m) = others ∙ cond-true _ _ _ here in
    let other : (s : ℕ) → s ≢ m → store_at next s ≡ store_at now s =
    λ s apart. ap (λ xs. store_at xs s) written ∙ get_or-set_other now m s (store_at next m) no_store apart in
    record {
      count = ap length written ∙ length-set now m (store_at next m) ∙ so_far.count;
      done = λ s h. elim (cases_eq s m) [
        | inl e ↦
            subst (λ (k : ℕ). FilledTo values (length values) (store_at before k) (store_at next k)) (sym e)
            (subst (λ (x : StoreState). FilledTo values (length values) x (store_at next m)) (so_far.rest m (omega arith)) filled)
        | inr apart ↦
            let below : s < m = omega arith in
            subst (λ (x : StoreState). FilledTo values (length values) (store_at before s) x) (sym (other s apart)) (so_far.done s below)
      ];
      rest = λ s h.
          let apart : s ≢ m = λ e. omega arith in
          let past : m ≤ s = omega arith in
          other s apart ∙ so_far.rest s past;
    }

pub loaded_all : (before after : List StoreState) (values : List ℕ) (m : ℕ) → LoadedTo before values m after → length before ≤ m → Loaded before values after
loaded_all before after values m so_far whole = record { count = so_far.count; each = λ s h. so_far.done s (omega arith) }
