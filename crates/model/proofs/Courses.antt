-- The course of one transaction: how its standing and its statuses go together, call by call. Assumes nothing.
use Rattle.std.proofs.Common.{◌≡◌, ℕ, ◌<◌, ◌≤◌, true, false, ◌≢◌, ◌⊎◌, List, sym, refl, ap, ◌∙◌, subst, inl, inr, arith}
use Rattle.orders.specs.Ascending.{ascending}
use Rattle.orders.specs.Lists.{all_below, bad_length}
use Rattle.model.specs.declared.statuses.Standing.{Standing}
use Rattle.model.specs.declared.statuses.Standing.TheVariants.{Absent, Pending as Undecided, Committed, Aborted}
use Rattle.model.specs.declared.statuses.Status.{Status}
use Rattle.model.specs.declared.statuses.Status.TheVariants.{None, Pending, Promised, Applied, Dropped}
use Rattle.model.specs.Docket.{Entry, at, blank, moved}
use Rattle.model.specs.Statuses.{after_up}
use Rattle.model.specs.Steps.{started}
use Rattle.model.proofs.Changes.{at_same, at_other, at_cases}
use Rattle.model.proofs.Known.{applied_before_up}

-- while undecided, nothing has begun or the coordinator has promised; a commit needs every promise; nothing is both
-- applied and dropped
abbrev pub Course : ℕ → Standing → ℕ → (ℕ → Status) → Type 0
Course m Absent c status = (k : ℕ) → status k ≡ None
Course m Undecided c status = ((k : ℕ) → status k ≡ None) ⊎ ((status c ≡ Promised) × ((k : ℕ) → status k ≢ Applied))
Course m Committed c status = (status c ≡ Applied) × ((k : ℕ) → k < m → (status k ≡ Promised) ⊎ (status k ≡ Applied))
Course m Aborted c status = (status c ≡ Dropped) × ((k : ℕ) → status k ≢ Applied)

pub record Listing (m n : ℕ) (e : Entry) : Type 0 where
  pub coordinator : e.coordinator < m
  pub length : bad_length e.objects ≡ false
  pub below : all_below n e.objects ≡ true
  pub ascends : ascending e.objects ≡ true

-- an entry over m machines and n objects
pub record Good (m n : ℕ) (e : Entry) : Type 0 where
  pub outside : (k : ℕ) → m ≤ k → e.status k ≡ None
  pub course : Course m e.standing e.coordinator e.status
  pub listing : e.standing ≢ Absent → Listing m n e

outside_at : (m : ℕ) (f : ℕ → Status) (s : ℕ) (x : Status) → s < m → ((k : ℕ) → m ≤ k → f k ≡ None) → (k : ℕ) → m ≤ k → at f s x k ≡ None
outside_at m f s x within out k past = at_other f s x k (λ e. omega arith) ∙ out k past

-- a status that is not applied does not become so where another is put
none_applied : (f : ℕ → Status) (s : ℕ) (x : Status) → x ≢ Applied → ((k : ℕ) → f k ≢ Applied) → (k : ℕ) → at f s x k ≢ Applied
none_applied f s x other none k applied = elim (at_cases f s x k) [
  | inl here ↦ other (sym here.1 ∙ applied)
  | inr there ↦ none k (sym there.1 ∙ applied)
]

-- a status stays what it was where the same is put, or it comes up unchanged
kept : (f : ℕ → Status) (s : ℕ) (x : Status) (k : ℕ) (y : Status) → x ≡ y → f k ≡ y → at f s x k ≡ y
kept f s x k y same was = elim (at_cases f s x k) [ inl here ↦ here.1 ∙ same | inr there ↦ there.1 ∙ was ]

raised_kept : (f : ℕ → Status) (s k : ℕ) (y : Status) → after_up y ≡ y → f k ≡ y → at f s (after_up (f s)) k ≡ y
raised_kept f s k y stays was = elim (at_cases f s (after_up (f s)) k) [
  | inl here ↦ here.1 ∙ ap (λ j. after_up (f j)) (sym here.0) ∙ ap after_up was ∙ stays
  | inr there ↦ there.1 ∙ was
]

pub good_blank : (m n : ℕ) → Good m n blank
good_blank m n = record { outside = λ k past. refl; course = λ k. refl; listing = λ used. absurd (used refl) }

module _ {m n : ℕ} (e : Entry) (good : Good m n e) where
  -- the course, where the standing is known
  pub course_of : (x : Standing) → e.standing ≡ x → Course m x e.coordinator e.status
  course_of x is = subst (λ (y : Standing). Course m y e.coordinator e.status) is good.course

  -- what a change of standing and of one status keeps
  pub good_moved : (y : Standing) (s : ℕ) (x : Status) → s < m → e.standing ≢ Absent → Course m y e.coordinator (at e.status s x) → Good m n (moved e y s x)
  good_moved y s x within used course = record {
    outside = outside_at m e.status s x within good.outside;
    course = course;
    listing = λ _. let l = good.listing used in record { coordinator = l.coordinator; length = l.length; below = l.below; ascends = l.ascends };
  }

  used_by : (x : Standing) → e.standing ≡ x → x ≢ Absent → e.standing ≢ Absent
  used_by x is used absent = used (sym is ∙ absent)

  -- the standing stays as it is
  pub good_same : (y : Standing) (s : ℕ) (x : Status) → e.standing ≡ y → y ≢ Absent → s < m → Course m y e.coordinator (at e.status s x) → Good m n (moved e e.standing s x)
  good_same y s x is used within course =
      good_moved e.standing s x within (used_by y is used) (subst (λ (z : Standing). Course m z e.coordinator (at e.status s x)) (sym is) course)

  unapplied : e.standing ≡ Undecided → (k : ℕ) → e.status k ≢ Applied
  unapplied is k applied = elim (course_of Undecided is) [
    | inl none ↦ cc (none k)
    | inr p ↦ p.1 k applied
  ]

  -- once the coordinator has promised, another machine may take any status but applied
  vote : (s : ℕ) (x : Status) → e.standing ≡ Undecided → s < m → s ≢ e.coordinator → e.status e.coordinator ≡ Promised → x ≢ Applied → Good m n (moved e e.standing s x)
  vote s x is within apart promised other =
      good_same Undecided s x is (λ q. cc) within (inr (at_other e.status s x e.coordinator (λ e'. apart (sym e')) ∙ promised, none_applied e.status s x other (unapplied is)))

  -- a status that is not none shows that the coordinator has promised
  promised_first : (s : ℕ) → e.standing ≡ Undecided → e.status s ≢ None → e.status e.coordinator ≡ Promised
  promised_first s is some = elim (course_of Undecided is) [ inl none ↦ absurd (some (none s)) | inr p ↦ p.0 ]

  pub good_issue : e.standing ≡ Undecided → e.coordinator < m → e.status e.coordinator ≡ None → Good m n (moved e e.standing e.coordinator Promised)
  good_issue is within none =
      good_same Undecided e.coordinator Promised is (λ q. cc) within (inr (at_same e.status e.coordinator Promised, none_applied e.status e.coordinator Promised (λ q. cc) (unapplied is)))

  pub good_begin : (s : ℕ) → e.standing ≡ Undecided → s < m → s ≢ e.coordinator → e.status e.coordinator ≡ Promised → Good m n (moved e e.standing s Pending)
  good_begin s is within apart promised = vote s Pending is within apart promised (λ q. cc)

  pub good_promise : (s : ℕ) → e.standing ≡ Undecided → s < m → s ≢ e.coordinator → e.status s ≡ Pending → Good m n (moved e e.standing s Promised)
  good_promise s is within apart pending =
      vote s Promised is within apart (promised_first s is (λ q. cc)) (λ q. cc)

  pub good_decline : (s : ℕ) → e.standing ≡ Undecided → s < m → s ≢ e.coordinator → e.status s ≡ Pending → Good m n (moved e e.standing s Dropped)
  good_decline s is within apart pending =
      vote s Dropped is within apart (promised_first s is (λ q. cc)) (λ q. cc)

  pub good_commit : e.standing ≡ Undecided → e.coordinator < m → ((k : ℕ) → k < m → e.status k ≡ Promised) → Good m n (moved e Committed e.coordinator Applied)
  good_commit is within all =
      good_moved Committed e.coordinator Applied within (used_by Undecided is (λ q. cc)) (at_same e.status e.coordinator Applied, each)
    where
      each : (k : ℕ) → k < m → (at e.status e.coordinator Applied k ≡ Promised) ⊎ (at e.status e.coordinator Applied k ≡ Applied)
      each k below = elim (at_cases e.status e.coordinator Applied k) [ inl here ↦ inr here.1 | inr there ↦ inl (there.1 ∙ all k below) ]

  pub good_abort : e.standing ≡ Undecided → e.coordinator < m → Good m n (moved e Aborted e.coordinator Dropped)
  good_abort is within =
      good_moved Aborted e.coordinator Dropped within (used_by Undecided is (λ q. cc)) (at_same e.status e.coordinator Dropped, none_applied e.status e.coordinator Dropped (λ q. cc) (unapplied is))

  pub good_apply : (s : ℕ) → e.standing ≡ Committed → s < m → Good m n (moved e e.standing s Applied)
  good_apply s is within =
      let course = course_of Committed is in
      good_same Committed s Applied is (λ q. cc) within (
        kept e.status s Applied e.coordinator Applied refl course.0,
        λ k below. elim (at_cases e.status s Applied k) [
          | inl here ↦ inr here.1
          | inr there ↦ elim (course.1 k below) [ inl p ↦ inl (there.1 ∙ p) | inr p ↦ inr (there.1 ∙ p) ]
        ],
      )

  pub good_drop : (s : ℕ) → e.standing ≡ Aborted → s < m → Good m n (moved e e.standing s Dropped)
  good_drop s is within =
      let course = course_of Aborted is in
      good_same Aborted s Dropped is (λ q. cc) within (kept e.status s Dropped e.coordinator Dropped refl course.0, none_applied e.status s Dropped (λ q. cc) course.1)

  raised_course : (s : ℕ) → s < m → (y : Standing) (f : ℕ → Status) (c : ℕ) → Course m y c f → Course m y c (at f s (after_up (f s)))
  raised_course s within Absent f c all = λ k. raised_kept f s k None refl (all k)
  raised_course s within Undecided f c (inl all) = inl (λ k. raised_kept f s k None refl (all k))
  raised_course s within Undecided f c (inr p) = inr (raised_kept f s c Promised refl p.0, none_applied f s (after_up (f s)) (λ q. p.1 s (applied_before_up (f s) q)) p.1)
  raised_course s within Committed f c p = (
    raised_kept f s c Applied refl p.0,
    λ k below. elim (p.1 k below) [ inl q ↦ inl (raised_kept f s k Promised refl q) | inr q ↦ inr (raised_kept f s k Applied refl q) ],
  )
  raised_course s within Aborted f c p = (raised_kept f s c Dropped refl p.0, none_applied f s (after_up (f s)) (λ q. p.1 s (applied_before_up (f s) q)) p.1)

  pub good_raised : (s : ℕ) → s < m → Good m n (moved e e.standing s (after_up (e.status s)))
  good_raised s within = record {
    outside = outside_at m e.status s (after_up (e.status s)) within good.outside;
    course = raised_course s within e.standing e.status e.coordinator good.course;
    listing = λ used. let l = good.listing used in record { coordinator = l.coordinator; length = l.length; below = l.below; ascends = l.ascends };
  }

pub good_started : {m n : ℕ} (s : ℕ) (list order : List ℕ) → s < m → bad_length list ≡ false → all_below n list ≡ true → ascending list ≡ true → Good m n (started s list order)
good_started s list order within long below ascends = record {
  outside = λ k past. refl;
  course = inl (λ k. refl);
  listing = λ _. record { coordinator = within; length = long; below = below; ascends = ascends };
}
