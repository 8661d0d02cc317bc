-- The one-copy law. Assumes nothing.
use Rattle.std.proofs.Common.{◌≡◌, ℕ, ◌<◌, ◌≤◌, true, false, not, ◌&&◌, List, [], ◌∷◌, ◌++◌, length, sym, refl, ap, ◌∙◌, subst, inl, inr}
use Rattle.std.proofs.lemmas.Bool.{and_parts, and_cases, not-true, not-false, both_ways, cases_eq, eq-eqb, ne_eqb, cond-true, cond-false}
use Rattle.stores.specs.Rows.{StoreState, place_count, store_at}
use Rattle.orders.specs.Lists.{all_below}
use Rattle.orders.specs.Rulebooks.{Rules}
use Rattle.model.specs.declared.statuses.Status.{Status}
use Rattle.model.specs.declared.statuses.Status.TheVariants.{Applied, Dropped}
use Rattle.model.specs.Calls.{read}
use Rattle.model.specs.Checks.{first, checks, read_checks}
use Rattle.model.specs.Docket.{Docket}
use Rattle.model.specs.Histories.{History, Run, accepted, clears, docket_of, ledger_of, one_life}
use Rattle.model.specs.OneCopy.{Owing, OneCopy, OneCopyLaw}
use Rattle.model.specs.Opening.{opened, opening_number}
use Rattle.model.specs.Orders.{picked, listed, owed}
use Rattle.model.specs.Steps.{Event, docket_after, values_of}
use Rattle.model.specs.World.{World, machines, objects, copy, room}
use Rattle.model.proofs.Alike.{some_machine}
use Rattle.model.proofs.DocketSteps.{there}
use Rattle.model.proofs.Final.{Final, applied_final, dropped_final, not_both, final_stays}
use Rattle.model.proofs.Orderly.{not_held}
use Rattle.model.proofs.Passed.{passed, refused_answer}
use Rattle.model.proofs.Runs.{sound_run, own_checks, moment_of, until}
use Rattle.model.proofs.Sound.{Sound, orderly_here}
use Rattle.model.proofs.Values.{picked_same, listed_below}

module _ (rules : Rules) (count : (order olds : List ℕ) → length (rules.news order olds) ≡ length olds) (stores : List StoreState) (well : opening_number stores ≡ 0) where
  abbrev opening : List ℕ
  opening = (store_at stores 0).values

  abbrev m : ℕ
  m = place_count stores

  abbrev n : ℕ
  n = length (store_at stores 0).values

  sound_at : (history : History) (w : World) → Run rules (opened stores) history w → Sound rules opening m n history w
  sound_at history w run = sound_run rules count stores well history w run

  -- an accepted read sees nothing that is still owed
  read_agrees : (history : History) (v : World) → Sound rules opening m n history v → (s : ℕ) (list : List ℕ) (buffer : ℕ) → first (checks rules (read s list buffer) v) ≡ 0
      → picked (copy v s) list ≡ picked (ledger_of rules opening history) list
  read_agrees history v sound s list buffer ok =
      let p = passed (read_checks v s list buffer) refl ok in
      let within : s < m = subst (λ (k : ℕ). s < k) sound.counted (there s (machines v) p.0) in
      let below : all_below n list ≡ true = subst (λ (k : ℕ). all_below k list ≡ true) (sound.agree.long 0 (some_machine stores well)) (not-false (all_below (objects v) list) p.1.1.1.0) in
      picked_same (copy v s) (ledger_of rules opening history) list (λ o in_List.
      sound.agree.copies s o within (listed_below n list o below in_List) (λ t owes in-objects.
      not_held v.docket sound.orderly s list p.1.1.1.1.1.1.0 t owes.holding o in_List in-objects))

  -- a final status lasts through one life
  lasts : (middle earlier : History) (v : World) → Run rules (opened stores) (middle ++ earlier) v → (t s : ℕ) (x : Status) → Final x → one_life t middle ≡ true
      → (docket_of earlier t).status s ≡ x → (docket_of (middle ++ earlier) t).status s ≡ x
  lasts [] earlier v run t s x final life is = is
  lasts (event ∷ middle) earlier v (u, run, step) t s x final life is =
      let parts = and_parts (not (accepted event && clears t event.call)) (one_life t middle) life in
      let before : (docket_of (middle ++ earlier) t).status s ≡ x = lasts middle earlier u run t s x final parts.1 is in
      let sound = sound_at (middle ++ earlier) u run in
      elim (cases_eq event.number 0) [
        | inl zero ↦
            let yes : accepted event ≡ true = eq-eqb event.number 0 zero in
            let kept : clears t event.call ≡ false = elim (and_cases (accepted event) (clears t event.call) (not-true _ parts.0)) [ inl idle ↦ absurd (both_ways (accepted event) idle yes) | inr q ↦ q ] in
            let after : (docket_after event.call u.docket t).status s ≡ x =
            final_stays rules u (orderly_here count (some_machine stores well) (middle ++ earlier) u sound) t s x final (ap (λ (d : Docket). (d t).status s) sound.agrees ∙ before) event.call
            (own_checks rules count stores well (middle ++ earlier) u sound event v step zero) kept in
            ap (λ (d : Docket). (d t).status s) (cond-true (accepted event) (docket_after event.call (docket_of (middle ++ earlier))) (docket_of (middle ++ earlier)) yes)
            ∙ ap (λ (d : Docket). (docket_after event.call d t).status s) (sym sound.agrees)
            ∙ after
        | inr other ↦
            ap (λ (d : Docket). (d t).status s) (cond-false (accepted event) (docket_after event.call (docket_of (middle ++ earlier))) (docket_of (middle ++ earlier)) (ne_eqb event.number 0 other)) ∙ before
      ]

  never_both : (history : History) (v : World) → Run rules (opened stores) history v → (t s s' : ℕ) → (docket_of history t).status s ≡ Applied → (docket_of history t).status s' ≡ Dropped → ⊥
  never_both history v run t s s' applied dropped =
      let sound = sound_at history v run in
      not_both m n (v.docket t) (sound.orderly.good t) s s' (ap (λ (d : Docket). (d t).status s) sound.agrees ∙ applied) (ap (λ (d : Docket). (d t).status s') sound.agrees ∙ dropped)

  module _ (history : History) (w : World) (run : Run rules (opened stores) history w) where
    sound : Sound rules opening m n history w
    sound = sound_at history w run

    reads_agree : (later earlier : History) (event : Event) (s : ℕ) (list : List ℕ) (buffer : ℕ)
        → history ≡ later ++ (event ∷ earlier) → event.call ≡ read s list buffer → event.number ≡ 0
        → event.values ≡ picked (ledger_of rules opening earlier) list
    reads_agree later earlier event s list buffer split called zero =
        let at_event = moment_of rules (opened stores) later earlier event w (subst (λ (h : History). Run rules (opened stores) h w) split run) in
        let v = at_event.before in
        let before = sound_at earlier v at_event.run in
        let ok = own_checks rules count stores well earlier v before event at_event.after at_event.step zero in
        (at_event.step.accepted zero).values
        ∙ ap (λ c. values_of c v) called
        ∙ read_agrees earlier v before s list buffer (ap (λ c. first (checks rules c v)) (sym called) ∙ ok)

    in_one_life : (later middle earlier : History) (t s s' : ℕ) → history ≡ later ++ (middle ++ earlier) → one_life t middle ≡ true
        → (((docket_of (middle ++ earlier) t).status s ≡ Applied → (docket_of earlier t).status s' ≡ Dropped → ⊥)
        × ((docket_of (middle ++ earlier) t).status s ≡ Dropped → (docket_of earlier t).status s' ≡ Applied → ⊥))
    in_one_life later middle earlier t s s' split life =
        let now = until rules (opened stores) later (middle ++ earlier) w (subst (λ (h : History). Run rules (opened stores) h w) split run) in (
          (λ applied dropped. never_both (middle ++ earlier) now.reached now.run t s s' applied (lasts middle earlier now.reached now.run t s' Dropped dropped_final life dropped)),
          (λ dropped applied. never_both (middle ++ earlier) now.reached now.run t s' s (lasts middle earlier now.reached now.run t s' Applied applied_final life applied) dropped),
        )

    abbrev d : Docket
    d = docket_of history

    pub one_copy : OneCopy rules opening history w
    one_copy = record {
      agrees = sound.agrees;
      reads = reads_agree;
      copies = λ s o within below free.
          sound.agree.copies s o (subst (λ (k : ℕ). s < k) sound.counted within) (subst (λ (k : ℕ). o < k) (sound.agree.long 0 (some_machine stores well)) below)
          (λ t owes in_List. free t (subst (λ (x : Docket). Owing (x t) s) sound.agrees owes) (ap (λ (x : Docket). listed o (x t).objects) (sym sound.agrees) ∙ in_List));
      owing = λ t s within owes.
          subst (λ (x : Docket). picked (ledger_of rules opening history) (x t).objects ≡ rules.news (x t).order (picked (copy w s) (x t).objects)) sound.agrees
          (sound.agree.owing t s (subst (λ (k : ℕ). s < k) sound.counted within) (subst (λ (x : Docket). Owing (x t) s) (sym sound.agrees) owes));
      atomic = in_one_life;
      rooms = λ s within. subst (λ (x : Docket). owed rules x s ≤ room w s) sound.agrees (sound.rooms s (subst (λ (k : ℕ). s < k) sound.counted within));
    }

-- no call changes the number of the opening
opening_kept : (rules : Rules) (w : World) (history : History) (w' : World) → Run rules w history w' → w'.opening ≡ w.opening
opening_kept rules w [] w' same = ap (λ x. x.opening) same
opening_kept rules w (event ∷ history) w' (v, run, step) =
    elim (cases_eq event.number 0) [
      | inl zero ↦ (step.accepted zero).opening ∙ opening_kept rules w history v run
      | inr other ↦ ap (λ x. x.opening) (step.refused other).0 ∙ opening_kept rules w history v run
    ]

refusals_agree : (rules : Rules) (stores : List StoreState) (history : History) (w : World) → Run rules (opened stores) history w → (opening_number stores ≡ 0 → ⊥)
    → (later earlier : History) (event : Event) → history ≡ later ++ (event ∷ earlier) → event.number ≡ opening_number stores
refusals_agree rules stores history w run other later earlier event split =
    let at_event = moment_of rules (opened stores) later earlier event w (subst (λ (h : History). Run rules (opened stores) h w) split run) in
    let same = opening_kept rules (opened stores) earlier at_event.before at_event.run in
    at_event.step.number ∙ refused_answer rules event.call at_event.before (λ e. other (sym same ∙ e)) ∙ same

pub law : OneCopyLaw
law rules laws stores history w run = record {
  kept = λ well. one_copy rules laws.as_many_news_as_olds stores well history w run;
  refused = refusals_agree rules stores history w run;
}
