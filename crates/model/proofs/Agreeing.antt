-- Copies and ledger: they agree but where a committed transaction is not carried out yet. Assumes nothing.
use Rattle.std.proofs.Common.{◌≡◌, ℕ, ◌<◌, true, false, ◌≢◌, List, length, get_or, sym, refl, ap, ◌∙◌, subst, inl, inr}
use Rattle.std.proofs.lemmas.List.{length-map}
use Rattle.std.proofs.lemmas.Bool.{cases_eq, cases_Bool, both_ways}
use Rattle.orders.specs.Lists.{all_below}
use Rattle.orders.specs.Rulebooks.{Rules}
use Rattle.model.specs.declared.statuses.Standing.TheVariants.{Absent, Pending as Undecided, Committed}
use Rattle.model.specs.declared.statuses.Status.TheVariants.{Promised, Applied}
use Rattle.model.specs.Docket.{Entry, Docket, at, moved, raised}
use Rattle.model.specs.OneCopy.{Owing}
use Rattle.model.specs.Orders.{picked, renewed, listed}
use Rattle.model.specs.Statuses.{is_holding, after_up}
use Rattle.model.proofs.Changes.{at_same, at_other, at_cases}
use Rattle.model.proofs.Courses.{Listing, course_of}
use Rattle.model.proofs.Orderly.{Orderly, Holds, Apart}
use Rattle.model.proofs.Values.{length_replaced, replaced_other, picked_replaced, picked_same, same_picked, listed_below}

pub record Agree (rules : Rules) (m n : ℕ) (d : Docket) (copy : ℕ → List ℕ) (ledger : List ℕ) : Type 0 where
  pub copies : (s o : ℕ) → s < m → o < n → ((t : ℕ) → Owing (d t) s → listed o (d t).objects ≡ true → ⊥) → get_or (copy s) o 0 ≡ get_or ledger o 0
  pub owing : (t s : ℕ) → s < m → Owing (d t) s → picked ledger (d t).objects ≡ rules.news (d t).order (picked (copy s) (d t).objects)
  pub long : (s : ℕ) → s < m → length (copy s) ≡ n
  pub whole : length ledger ≡ n

-- the two dockets owe the same
pub record SameOwing (m : ℕ) (d d' : Docket) : Type 0 where
  pub forth : (t s : ℕ) → s < m → Owing (d t) s → Owing (d' t) s × ((d' t).objects ≡ (d t).objects)
  pub back : (t s : ℕ) → s < m → Owing (d' t) s → Owing (d t) s × ((d' t).objects ≡ (d t).objects) × ((d' t).order ≡ (d t).order)

pub same_owing : (m : ℕ) (d : Docket) → SameOwing m d d
same_owing m d = record { forth = λ t s within o. (o, refl); back = λ t s within o. (o, refl, refl) }

-- neither the old entry nor the new one owes anything
pub quiet_at : (m : ℕ) (d : Docket) (t : ℕ) (e : Entry) → ((s : ℕ) → s < m → Owing (d t) s → ⊥) → ((s : ℕ) → s < m → Owing e s → ⊥) → SameOwing m d (at d t e)
quiet_at m d t e before after = record { forth = forth; back = back }
  where
    forth : (k s : ℕ) → s < m → Owing (d k) s → Owing (at d t e k) s × ((at d t e k).objects ≡ (d k).objects)
    forth k s within owes = elim (at_cases d t e k) [
      | inl here ↦ absurd (before s within (subst (λ (j : ℕ). Owing (d j) s) here.0 owes))
      | inr there ↦ (subst (λ (x : Entry). Owing x s) (sym there.1) owes, ap (λ x. x.objects) there.1)
    ]

    back : (k s : ℕ) → s < m → Owing (at d t e k) s → Owing (d k) s × ((at d t e k).objects ≡ (d k).objects) × ((at d t e k).order ≡ (d k).order)
    back k s within owes = elim (at_cases d t e k) [
      | inl here ↦ absurd (after s within (subst (λ (x : Entry). Owing x s) here.1 owes))
      | inr there ↦ (subst (λ (x : Entry). Owing x s) there.1 owes, ap (λ x. x.objects) there.1, ap (λ x. x.order) there.1)
    ]

-- a committed transaction owes the same after a machine came up
pub same_raised : (m n : ℕ) (d : Docket) (u : ℕ) → Orderly m n d → SameOwing m d (raised d u)
same_raised m n d u orderly = record { forth = forth; back = back }
  where
    kept : (t s : ℕ) → s < m → (d t).standing ≡ Committed → after_up ((d t).status s) ≡ (d t).status s
    kept t s within is = elim ((course_of (d t) (orderly.good t) Committed is).1 s within) [ inl p ↦ ap after_up p ∙ sym p | inr p ↦ ap after_up p ∙ sym p ]

    same : (t s : ℕ) → s < m → (d t).standing ≡ Committed → (raised d u t).status s ≡ (d t).status s
    same t s within is = elim (at_cases (d t).status u (after_up ((d t).status u)) s) [
      | inl here ↦ here.1 ∙ ap (λ k. after_up ((d t).status k)) (sym here.0) ∙ kept t s within is
      | inr there ↦ there.1
    ]

    forth : (t s : ℕ) → s < m → Owing (d t) s → Owing (raised d u t) s × ((raised d u t).objects ≡ (d t).objects)
    forth t s within owes = (record { committed = owes.committed; holding = ap is_holding (same t s within owes.committed) ∙ owes.holding }, refl)

    back : (t s : ℕ) → s < m → Owing (raised d u t) s → Owing (d t) s × ((raised d u t).objects ≡ (d t).objects) × ((raised d u t).order ≡ (d t).order)
    back t s within owes = (record { committed = owes.committed; holding = ap is_holding (sym (same t s within owes.committed)) ∙ owes.holding }, refl, refl)

module _ {rules : Rules} {m n : ℕ} (d d' : Docket) (copy copy' : ℕ → List ℕ) (ledger : List ℕ) (agree : Agree rules m n d copy ledger) where
  -- copies and ledger stay, and so does what is owed
  pub agree_same : ((s : ℕ) → copy' s ≡ copy s) → SameOwing m d d' → Agree rules m n d' copy' ledger
  agree_same same owing = record {
    copies = λ s o within below free.
        ap (λ xs. get_or xs o 0) (same s)
        ∙ agree.copies s o within below (λ t owes in_List.
        let f = owing.forth t s within owes in
        free t f.0 (subst (λ (xs : List ℕ). listed o xs ≡ true) (sym f.1) in_List));
    owing = λ t s within owes.
        let b = owing.back t s within owes in
        ap (picked ledger) b.1
        ∙ agree.owing t s within b.0
        ∙ ap (λ xs. rules.news (d t).order (picked (copy s) xs)) (sym b.1)
        ∙ ap (λ order. rules.news order (picked (copy s) (d' t).objects)) (sym b.2)
        ∙ ap (λ xs. rules.news (d' t).order (picked xs (d' t).objects)) (sym (same s));
    long = λ s within. ap length (same s) ∙ agree.long s within;
    whole = agree.whole;
  }

not_listed : (o : ℕ) (xs ys : List ℕ) → Apart xs ys → listed o ys ≡ true → listed o xs ≡ false
not_listed o xs ys apart in_ys = elim (cases_Bool (listed o xs)) [ inl in-xs ↦ absurd (apart o in-xs in_ys) | inr out ↦ out ]

module _ {rules : Rules} {m n : ℕ} (count : (order olds : List ℕ) → length (rules.news order olds) ≡ length olds)
    (d : Docket) (orderly : Orderly m n d) (copy copy' : ℕ → List ℕ) (ledger : List ℕ) (agree : Agree rules m n d copy ledger)
    (t : ℕ) (used : (d t).standing ≢ Absent) where
  abbrev os : List ℕ
  os = (d t).objects

  -- the values that the order makes of some values, put back where they came from
  abbrev carried : List ℕ → List ℕ
  carried values = renewed rules os (d t).order values

  listing : Listing m n (d t)
  listing = (orderly.good t).listing used

  picked_carried : (values : List ℕ) → length values ≡ n → picked (carried values) os ≡ rules.news (d t).order (picked values os)
  picked_carried values long =
      picked_replaced 0 values os (rules.news (d t).order (picked values os)) listing.ascends
      (subst (λ (k : ℕ). all_below k os ≡ true) (sym long) listing.below)
      (count (d t).order (picked values os) ∙ length-map os (λ o. get_or values o 0))

  carried_other : (values : List ℕ) (o : ℕ) → listed o os ≡ false → get_or (carried values) o 0 ≡ get_or values o 0
  carried_other values o out = replaced_other values os (rules.news (d t).order (picked values os)) o out

  carried_apart : (values list : List ℕ) → Apart os list → picked (carried values) list ≡ picked values list
  carried_apart values list apart = picked_same (carried values) values list (λ o in_List. carried_other values o (not_listed o os list apart in_List))

  carried_long : (values : List ℕ) → length (carried values) ≡ length values
  carried_long values = length_replaced values os (rules.news (d t).order (picked values os))

  module _ (c : ℕ) (here : copy' c ≡ carried (copy c)) (others : (s : ℕ) → s ≢ c → copy' s ≡ copy s) where
    copy_other : (s o : ℕ) → listed o os ≡ false → get_or (copy' s) o 0 ≡ get_or (copy s) o 0
    copy_other s o out = elim (cases_eq s c) [
      | inl e ↦ ap (λ k. get_or (copy' k) o 0) e ∙ ap (λ xs. get_or xs o 0) here ∙ carried_other (copy c) o out ∙ ap (λ k. get_or (copy k) o 0) (sym e)
      | inr apart ↦ ap (λ xs. get_or xs o 0) (others s apart)
    ]

    copy_apart : (s : ℕ) (list : List ℕ) → Apart os list → picked (copy' s) list ≡ picked (copy s) list
    copy_apart s list apart = picked_same (copy' s) (copy s) list (λ o in_List. copy_other s o (not_listed o os list apart in_List))

    copy_long : (s : ℕ) → s < m → length (copy' s) ≡ n
    copy_long s within = elim (cases_eq s c) [
      | inl e ↦ ap (λ k. length (copy' k)) e ∙ ap length here ∙ carried_long (copy c) ∙ ap (λ k. length (copy k)) (sym e) ∙ agree.long s within
      | inr apart ↦ ap length (others s apart) ∙ agree.long s within
    ]

    -- a commit: every machine has promised, the coordinator's copy and the ledger are renewed
    module _ (is : (d t).standing ≡ Undecided) (all : (k : ℕ) → k < m → (d t).status k ≡ Promised) where
      abbrev d' : Docket
      d' = at d t (moved (d t) Committed c Applied)

      holds : (s : ℕ) → s < m → Holds (d t) s
      holds s within = ap is_holding (all s within)

      not_owing : (s : ℕ) → Owing (d t) s → ⊥
      not_owing s owes = cc owes.committed

      -- before the commit the copies agree with the ledger on the list
      agreed : (s : ℕ) → s < m → picked (copy s) os ≡ picked ledger os
      agreed s within = picked_same (copy s) ledger os (λ o in_List.
          agree.copies s o within (listed_below n os o listing.below in_List) (λ t' owes in-list'.
          elim (cases_eq t' t) [
            | inl e ↦ not_owing s (subst (λ (k : ℕ). Owing (d k) s) e owes)
            | inr other ↦ orderly.disjoint s t t' (λ q. other (sym q)) (holds s within) owes.holding o in_List in-list'
          ]))

      ledger_renewed : picked (carried ledger) os ≡ rules.news (d t).order (picked ledger os)
      ledger_renewed = picked_carried ledger agree.whole

      owes_now : (s : ℕ) → s < m → s ≢ c → Owing (d' t) s
      owes_now s within other = subst (λ (x : Entry). Owing x s) (sym (at_same d t (moved (d t) Committed c Applied)))
          (record { committed = refl; holding = ap is_holding (at_other (d t).status c Applied s other ∙ all s within) })

      copies' : (s o : ℕ) → s < m → o < n → ((k : ℕ) → Owing (d' k) s → listed o (d' k).objects ≡ true → ⊥) → get_or (copy' s) o 0 ≡ get_or (carried ledger) o 0
      copies' s o within below free = elim (cases_Bool (listed o os)) [
        | inl in_List ↦ elim (cases_eq s c) [
          | inl e ↦
              let at_home : c < m = subst (λ (k : ℕ). k < m) e within in
              let same : picked (copy' c) os ≡ picked (carried ledger) os =
              ap (λ xs. picked xs os) here ∙ picked_carried (copy c) (agree.long c at_home) ∙ ap (rules.news (d t).order) (agreed c at_home) ∙ sym ledger_renewed in
              ap (λ k. get_or (copy' k) o 0) e ∙ same_picked (copy' c) (carried ledger) os o same in_List
          | inr other ↦ absurd (free t (owes_now s within other) (ap (λ x. listed o x.objects) (at_same d t (moved (d t) Committed c Applied)) ∙ in_List))
        ]
        | inr out ↦
            copy_other s o out
            ∙ agree.copies s o within below (λ k owes in_List.
            elim (cases_eq k t) [
              | inl e ↦ not_owing s (subst (λ (j : ℕ). Owing (d j) s) e owes)
              | inr other ↦
                  let same = at_other d t (moved (d t) Committed c Applied) k other in
                  free k (subst (λ (x : Entry). Owing x s) (sym same) owes) (ap (λ x. listed o x.objects) same ∙ in_List)
            ])
            ∙ sym (carried_other ledger o out)
      ]

      owing' : (k s : ℕ) → s < m → Owing (d' k) s → picked (carried ledger) (d' k).objects ≡ rules.news (d' k).order (picked (copy' s) (d' k).objects)
      owing' k s within owes = elim (at_cases d t (moved (d t) Committed c Applied) k) [
        | inl now ↦
            let mine = subst (λ (x : Entry). Owing x s) now.1 owes in
            let apart : s ≢ c = λ e. both_ways (is_holding (at (d t).status c Applied s)) (ap (λ j. is_holding (at (d t).status c Applied j)) e ∙ ap is_holding (at_same (d t).status c Applied)) mine.holding in
            subst (λ (x : Entry). picked (carried ledger) x.objects ≡ rules.news x.order (picked (copy' s) x.objects)) (sym now.1)
            (ledger_renewed ∙ ap (rules.news (d t).order) (sym (agreed s within)) ∙ ap (λ xs. rules.news (d t).order (picked xs os)) (sym (others s apart)))
        | inr then ↦
            let theirs = subst (λ (x : Entry). Owing x s) then.1 owes in
            let apart = orderly.disjoint s t k (λ q. then.0 (sym q)) (holds s within) theirs.holding in
            subst (λ (x : Entry). picked (carried ledger) x.objects ≡ rules.news x.order (picked (copy' s) x.objects)) (sym then.1)
            (carried_apart ledger (d k).objects apart ∙ agree.owing k s within theirs ∙ ap (rules.news (d k).order) (sym (copy_apart s (d k).objects apart)))
      ]

      pub agree_commit : Agree rules m n d' copy' (carried ledger)
      agree_commit = record { copies = copies'; owing = owing'; long = copy_long; whole = carried_long ledger ∙ agree.whole }

    -- an apply: the machine's own copy is renewed
    module _ (within-c : c < m) (is : (d t).standing ≡ Committed) (promised : (d t).status c ≡ Promised) where
      abbrev d'' : Docket
      d'' = at d t (moved (d t) (d t).standing c Applied)

      owed_here : Owing (d t) c
      owed_here = record { committed = is; holding = ap is_holding promised }

      applied : picked (copy' c) os ≡ picked ledger os
      applied = ap (λ xs. picked xs os) here ∙ picked_carried (copy c) (agree.long c within-c) ∙ sym (agree.owing t c within-c owed_here)

      still_owing : (k s : ℕ) → s ≢ c → Owing (d k) s → Owing (d'' k) s × ((d'' k).objects ≡ (d k).objects)
      still_owing k s other owes = elim (at_cases d t (moved (d t) (d t).standing c Applied) k) [
        | inl now ↦
            let mine = subst (λ (j : ℕ). Owing (d j) s) now.0 owes in (
              subst (λ (x : Entry). Owing x s) (sym now.1) (record { committed = mine.committed; holding = ap is_holding (at_other (d t).status c Applied s other) ∙ mine.holding }),
              ap (λ x. x.objects) now.1 ∙ ap (λ j. (d j).objects) (sym now.0),
            )
        | inr then ↦ (subst (λ (x : Entry). Owing x s) (sym then.1) owes, ap (λ x. x.objects) then.1)
      ]

      copies'' : (s o : ℕ) → s < m → o < n → ((k : ℕ) → Owing (d'' k) s → listed o (d'' k).objects ≡ true → ⊥) → get_or (copy' s) o 0 ≡ get_or ledger o 0
      copies'' s o within below free = elim (cases_eq s c) [
        | inl e ↦ elim (cases_Bool (listed o os)) [
          | inl in_List ↦ ap (λ k. get_or (copy' k) o 0) e ∙ same_picked (copy' c) ledger os o applied in_List
          | inr out ↦
              copy_other s o out
              ∙ agree.copies s o within below (λ k owes in_List.
              elim (cases_eq k t) [
                | inl q ↦ both_ways (listed o os) out (ap (λ j. listed o (d j).objects) (sym q) ∙ in_List)
                | inr other ↦
                    let same = at_other d t (moved (d t) (d t).standing c Applied) k other in
                    free k (subst (λ (x : Entry). Owing x s) (sym same) owes) (ap (λ x. listed o x.objects) same ∙ in_List)
              ])
        ]
        | inr other ↦
            ap (λ xs. get_or xs o 0) (others s other)
            ∙ agree.copies s o within below (λ k owes in_List.
            let f = still_owing k s other owes in
            free k f.0 (ap (listed o) f.1 ∙ in_List))
      ]

      owing'' : (k s : ℕ) → s < m → Owing (d'' k) s → picked ledger (d'' k).objects ≡ rules.news (d'' k).order (picked (copy' s) (d'' k).objects)
      owing'' k s within owes = elim (at_cases d t (moved (d t) (d t).standing c Applied) k) [
        | inl now ↦
            let mine = subst (λ (x : Entry). Owing x s) now.1 owes in
            let apart : s ≢ c = λ e. both_ways (is_holding (at (d t).status c Applied s)) (ap (λ j. is_holding (at (d t).status c Applied j)) e ∙ ap is_holding (at_same (d t).status c Applied)) mine.holding in
            let before : Owing (d t) s = record { committed = mine.committed; holding = ap is_holding (sym (at_other (d t).status c Applied s apart)) ∙ mine.holding } in
            subst (λ (x : Entry). picked ledger x.objects ≡ rules.news x.order (picked (copy' s) x.objects)) (sym now.1)
            (agree.owing t s within before ∙ ap (λ xs. rules.news (d t).order (picked xs os)) (sym (others s apart)))
        | inr then ↦
            let theirs = subst (λ (x : Entry). Owing x s) then.1 owes in
            let unchanged : picked (copy' s) (d k).objects ≡ picked (copy s) (d k).objects =
            elim (cases_eq s c) [
              | inl e ↦ copy_apart s (d k).objects (orderly.disjoint s t k (λ q. then.0 (sym q)) (ap (λ j. is_holding ((d t).status j)) e ∙ ap is_holding promised) theirs.holding)
              | inr other ↦ ap (λ xs. picked xs (d k).objects) (others s other)
            ] in
            subst (λ (x : Entry). picked ledger x.objects ≡ rules.news x.order (picked (copy' s) x.objects)) (sym then.1)
            (agree.owing k s within theirs ∙ ap (rules.news (d k).order) (sym unchanged))
      ]

      pub agree_apply : Agree rules m n d'' copy' ledger
      agree_apply = record { copies = copies''; owing = owing''; long = copy_long; whole = agree.whole }
