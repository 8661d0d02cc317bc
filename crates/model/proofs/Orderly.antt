-- The docket as a whole: every entry is in order, and no two transactions hold one object at one machine.
-- Assumes nothing.
use Rattle.std.proofs.Common.{◌≡◌, ℕ, ◌<◌, ◌≤◌, true, false, ◌&&◌, ◌≢◌, ◌⊎◌, List, sym, refl, ap, ◌∙◌, subst, inl, inr, arith}
use Rattle.std.proofs.lemmas.Bool.{cases_lt, both_ways, and_cases, false≢true}
use Rattle.model.specs.declared.statuses.Standing.{Standing}
use Rattle.model.specs.declared.statuses.Standing.TheVariants.{Absent}
use Rattle.model.specs.declared.statuses.Status.{Status}
use Rattle.model.specs.Docket.{Entry, Docket, at, blank, moved, raised}
use Rattle.model.specs.Orders.{listed, overlap, held, transactions}
use Rattle.model.specs.Statuses.{is_holding, after_up}
use Rattle.model.proofs.Changes.{at_other, at_cases}
use Rattle.model.proofs.Counts.{any_to_none}
use Rattle.model.proofs.Courses.{Good, course_of, good_blank, good_raised}
use Rattle.model.proofs.Known.{holding_before_up}
use Rattle.model.proofs.Values.{overlap_none}

abbrev pub Holds : Entry → ℕ → Type 0
Holds e s = is_holding (e.status s) ≡ true

-- the two lists have no object in common
abbrev pub Apart : List ℕ → List ℕ → Type 0
Apart xs ys = (o : ℕ) → listed o xs ≡ true → listed o ys ≡ true → ⊥

pub record Orderly (m n : ℕ) (d : Docket) : Type 0 where
  pub good : (t : ℕ) → Good m n (d t)
  pub few : (t : ℕ) → transactions ≤ t → (d t).standing ≡ Absent
  pub disjoint : (s t t' : ℕ) → t ≢ t' → Holds (d t) s → Holds (d t') s → Apart (d t).objects (d t').objects

pub orderly_blank : (m n : ℕ) → Orderly m n (λ _. blank)
orderly_blank m n = record { good = λ t. good_blank m n; few = λ t past. refl; disjoint = λ s t t' other h h'. absurd (false≢true h) }

-- what a new entry holds it held before, or nobody else holds it there
abbrev pub Grows : Docket → ℕ → Entry → ℕ → Type 0
Grows d t e s = (Holds (d t) s × (e.objects ≡ (d t).objects)) ⊎ ((t' : ℕ) → t' ≢ t → Holds (d t') s → Apart e.objects (d t').objects)

apart_flip : (xs ys : List ℕ) → Apart xs ys → Apart ys xs
apart_flip xs ys apart o in_ys in-xs = apart o in-xs in_ys

module _ {m n : ℕ} (d : Docket) (orderly : Orderly m n d) where
  -- one new entry
  grown_apart : (t : ℕ) (e : Entry) (s : ℕ) → Grows d t e s → (t' : ℕ) → t' ≢ t → Holds (d t') s → Apart e.objects (d t').objects
  grown_apart t e s (inl old) t' other holds = subst (λ (xs : List ℕ). Apart xs (d t').objects) (sym old.1) (orderly.disjoint s t t' (λ q. other (sym q)) old.0 holds)
  grown_apart t e s (inr new) t' other holds = new t' other holds

  pub orderly_at : (t : ℕ) (e : Entry) → t < transactions → Good m n e → ((s : ℕ) → Holds e s → Grows d t e s) → Orderly m n (at d t e)
  orderly_at t e below good grows = record {
    good = λ k. elim (at_cases d t e k) [
      | inl here ↦ subst (Good m n) (sym here.1) good
      | inr there ↦ subst (Good m n) (sym there.1) (orderly.good k)
    ];
    few = λ k past. at_few k past;
    disjoint = disjoint;
  }
    where
      at_few : (k : ℕ) → transactions ≤ k → (at d t e k).standing ≡ Absent
      at_few k past = ap (λ x. x.standing) (at_other d t e k (λ q. omega arith)) ∙ orderly.few k past

      disjoint : (s k k' : ℕ) → k ≢ k' → Holds (at d t e k) s → Holds (at d t e k') s → Apart (at d t e k).objects (at d t e k').objects
      disjoint s k k' other h h' = elim (at_cases d t e k) [
        | inl here ↦ elim (at_cases d t e k') [
          | inl here' ↦ absurd (other (here.0 ∙ sym here'.0))
          | inr there' ↦
              subst (λ (x : Entry). Apart x.objects (at d t e k').objects) (sym here.1)
              (subst (λ (x : Entry). Apart e.objects x.objects) (sym there'.1)
              (grown_apart t e s (grows s (subst (λ (x : Entry). Holds x s) here.1 h)) k' there'.0 (subst (λ (x : Entry). Holds x s) there'.1 h')))
        ]
        | inr there ↦ elim (at_cases d t e k') [
          | inl here' ↦
              subst (λ (x : Entry). Apart x.objects (at d t e k').objects) (sym there.1)
              (subst (λ (x : Entry). Apart (d k).objects x.objects) (sym here'.1)
              (apart_flip e.objects (d k).objects (grown_apart t e s (grows s (subst (λ (x : Entry). Holds x s) here'.1 h')) k there.0 (subst (λ (x : Entry). Holds x s) there.1 h))))
          | inr there' ↦
              subst (λ (x : Entry). Apart x.objects (at d t e k').objects) (sym there.1)
              (subst (λ (x : Entry). Apart (d k).objects x.objects) (sym there'.1)
              (orderly.disjoint s k k' other (subst (λ (x : Entry). Holds x s) there.1 h) (subst (λ (x : Entry). Holds x s) there'.1 h')))
        ]
      ]

  -- what a test of the held objects tells
  pub not_held : (s : ℕ) (list : List ℕ) → held d s list ≡ false → (t' : ℕ) → Holds (d t') s → Apart list (d t').objects
  not_held s list none t' holds o in_List in-objects =
      elim (cases_lt t' transactions) [
        | inl below ↦
            elim (and_cases (is_holding ((d t').status s)) (overlap (d t').objects list) (any_to_none transactions (λ t. is_holding ((d t).status s) && overlap (d t).objects list) none t' below)) [
              | inl idle ↦ both_ways _ idle holds
              | inr apart ↦ overlap_none (d t').objects list o apart in-objects in_List
            ]
        | inr past ↦
            let all = course_of (d t') (orderly.good t') Absent (orderly.few t' past) in
            both_ways (is_holding ((d t').status s)) (ap is_holding (all s)) holds
      ]

  -- a status that holds nothing, or what was held already
  pub moved_grows : (t : ℕ) (y : Standing) (s : ℕ) (x : Status) → (is_holding x ≡ true → (Holds (d t) s) ⊎ ((t' : ℕ) → t' ≢ t → Holds (d t') s → Apart (d t).objects (d t').objects))
      → (k : ℕ) → Holds (moved (d t) y s x) k → Grows d t (moved (d t) y s x) k
  moved_grows t y s x here k holds = elim (at_cases (d t).status s x k) [
    | inl at-s ↦
        elim (here (ap is_holding (sym at-s.1) ∙ holds)) [
          | inl old ↦ inl (subst (λ (j : ℕ). Holds (d t) j) (sym at-s.0) old, refl)
          | inr new ↦ inr (λ t' other h'. new t' other (subst (λ (j : ℕ). Holds (d t') j) at-s.0 h'))
        ]
    | inr there ↦ inl (ap is_holding (sym there.1) ∙ holds, refl)
  ]

  pub orderly_raised : (s : ℕ) → s < m → Orderly m n (raised d s)
  orderly_raised s within = record {
    good = λ t. good_raised (d t) (orderly.good t) s within;
    few = orderly.few;
    disjoint = λ k t t' other h h'. orderly.disjoint k t t' other (before t k h) (before t' k h');
  }
    where
      before : (t k : ℕ) → Holds (raised d s t) k → Holds (d t) k
      before t k h = elim (at_cases (d t).status s (after_up ((d t).status s)) k) [
        | inl here ↦ subst (λ (j : ℕ). Holds (d t) j) (sym here.0) (holding_before_up ((d t).status s) (ap is_holding (sym here.1) ∙ h))
        | inr there ↦ ap is_holding (sym there.1) ∙ h
      ]
