-- Sound from the opening on, over any run. Assumes nothing.
use Rattle.std.proofs.Common.{◌≡◌, ℕ, false, ◌≢◌, List, [], ◌∷◌, ◌++◌, length, get_or, sym, refl, ap, ◌∙◌, subst, inl, inr, arith}
use Rattle.std.proofs.lemmas.Bool.{cases_eq, cond-false, ne_eqb}
use Rattle.stores.specs.Rows.{StoreState, place_count, store_at}
use Rattle.orders.specs.Rulebooks.{Rules}
use Rattle.model.specs.Checks.{first, checks}
use Rattle.model.specs.Histories.{History, Run, accepted, docket_of, start_of, last_start, ledger_after, ledger_of}
use Rattle.model.specs.Opening.{opened, opening_number}
use Rattle.model.specs.Orders.{transactions}
use Rattle.model.specs.Steps.{Event, Step, docket_after}
use Rattle.model.specs.World.{World, copy}
use Rattle.model.proofs.Agreeing.{Agree}
use Rattle.model.proofs.Alike.{alike, some_machine, all_machines}
use Rattle.model.proofs.Counts.{sum_zero}
use Rattle.model.proofs.Orderly.{orderly_blank}
use Rattle.model.proofs.Passed.{well_answer}
use Rattle.model.proofs.Sound.{Sound, sound_after}

-- a register just opened
pub sound_opened : (rules : Rules) (stores : List StoreState) → opening_number stores ≡ 0 → Sound rules (store_at stores 0).values (place_count stores) (length (store_at stores 0).values) [] (opened stores)
sound_opened rules stores well = record {
  well = well;
  counted = all_machines stores well;
  agrees = refl;
  orderly = orderly_blank (place_count stores) (length (store_at stores 0).values);
  starts = λ t used. absurd (used refl);
  agree = record {
    copies = λ s o within below free. ap (λ xs. get_or xs o 0) (alike stores well s within);
    owing = λ t s within owes. cc owes.committed;
    long = λ s within. ap length (alike stores well s within);
    whole = refl;
  };
  rooms = λ s within. omega (arith, sum_zero transactions);
}

-- a refused call
sound_refused : (rules : Rules) (opening : List ℕ) (m n : ℕ) (history : History) (w w' : World) (event : Event) → event.number ≢ 0 → w' ≡ w
    → Sound rules opening m n history w → Sound rules opening m n (event ∷ history) w'
sound_refused rules opening m n history w w' event other same sound =
    subst (λ (v : World). Sound rules opening m n (event ∷ history) v) (sym same) (record {
      well = sound.well;
      counted = sound.counted;
      agrees = sound.agrees ∙ sym (cond-false (accepted event) (docket_after event.call (docket_of history)) (docket_of history) idle);
      orderly = sound.orderly;
      starts = λ t used.
          let kept : last_start t (event ∷ history) ≡ last_start t history = cond-false (accepted event) (start_of t event.call (last_start t history)) (last_start t history) idle in
          let s = sound.starts t used in
          (s.0 ∙ ap (λ o. o.0) (sym kept), s.1 ∙ ap (λ o. o.1) (sym kept));
      agree = subst (λ (l : List ℕ). Agree rules m n w.docket (copy w) l)
          (sym (cond-false (accepted event) (ledger_after rules event.call (λ t. last_start t history) (ledger_of rules opening history)) (ledger_of rules opening history) idle)) sound.agree;
      rooms = sound.rooms;
    })
  where
    idle : accepted event ≡ false
    idle = ne_eqb event.number 0 other

module _ (rules : Rules) (count : (order olds : List ℕ) → length (rules.news order olds) ≡ length olds) (stores : List StoreState) (well : opening_number stores ≡ 0) where
  abbrev SoundAt : History → World → Type 0
  SoundAt history w = Sound rules (store_at stores 0).values (place_count stores) (length (store_at stores 0).values) history w

  -- an accepted call has passed its own checks
  pub own_checks : (history : History) (v : World) → SoundAt history v → (event : Event) (w : World) → Step rules v event w → event.number ≡ 0 → first (checks rules event.call v) ≡ 0
  own_checks history v sound event w step zero = sym (well_answer rules event.call v sound.well) ∙ sym step.number ∙ zero

  pub sound_step : (history : History) (v : World) → SoundAt history v → (event : Event) (w : World) → Step rules v event w → SoundAt (event ∷ history) w
  sound_step history v sound event w step =
      elim (cases_eq event.number 0) [
        | inl zero ↦ sound_after count (some_machine stores well) history v sound w event zero (own_checks history v sound event w step zero) (step.accepted zero)
        | inr other ↦ sound_refused rules (store_at stores 0).values (place_count stores) (length (store_at stores 0).values) history v w event other (step.refused other).0 sound
      ]

  pub sound_run : (history : History) (w : World) → Run rules (opened stores) history w → SoundAt history w
  sound_run [] w same = subst (SoundAt []) (sym same) (sound_opened rules stores well)
  sound_run (event ∷ history) w (v, run, step) = sound_step history v (sound_run history v run) event w step

-- the world before and after an event
pub record Moment (rules : Rules) (w : World) (earlier : History) (event : Event) : Type 0 where
  pub before : World
  pub after : World
  pub run : Run rules w earlier before
  pub step : Step rules before event after

pub moment_of : (rules : Rules) (w : World) (later earlier : History) (event : Event) (w' : World) → Run rules w (later ++ (event ∷ earlier)) w' → Moment rules w earlier event
moment_of rules w [] earlier event w' (v, run, step) = record { before = v; after = w'; run = run; step = step }
moment_of rules w (e ∷ later) earlier event w' (v, run, step) = moment_of rules w later earlier event v run

-- the run up to some time
pub record Until (rules : Rules) (w : World) (earlier : History) : Type 0 where
  pub reached : World
  pub run : Run rules w earlier reached

pub until : (rules : Rules) (w : World) (later earlier : History) (w' : World) → Run rules w (later ++ earlier) w' → Until rules w earlier
until rules w [] earlier w' run = record { reached = w'; run = run }
until rules w (e ∷ later) earlier w' (v, run, step) = until rules w later earlier v run
