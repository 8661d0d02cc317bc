-- The docket: how each transaction stands, by its number. Assumes nothing.
use Rattle.std.specs.Prelude.{ℕ, cond, List, [], ◌==◌}
use Rattle.model.specs.declared.statuses.Standing.{Standing}
use Rattle.model.specs.declared.statuses.Standing.TheVariants.{Absent}
use Rattle.model.specs.declared.statuses.Status.{Status}
use Rattle.model.specs.declared.statuses.Status.TheVariants.{None}
use Rattle.model.specs.Statuses.{after_up}

-- in use, a transaction has a coordinator machine, an object list, an order, and a status at each machine
pub record Entry : Type 0 where
  pub standing : Standing
  pub coordinator : ℕ
  pub objects : List ℕ
  pub order : List ℕ
  pub status : ℕ → Status

abbrev pub Docket : Type 0
Docket = ℕ → Entry

-- the function with another value at k
abbrev pub at : {A : Type 0} → (ℕ → A) → ℕ → A → (ℕ → A)
at f k v = λ j. cond (j == k) v (f j)

abbrev pub blank : Entry
blank = record { standing = Absent; coordinator = 0; objects = []; order = []; status = λ _. None }

-- the entry with another standing and another status at machine s
abbrev pub moved : Entry → Standing → ℕ → Status → Entry
moved e standing s status = record { standing = standing; coordinator = e.coordinator; objects = e.objects; order = e.order; status = at e.status s status }

-- the docket with another status of transaction t at machine s
abbrev pub with_status : Docket → ℕ → ℕ → Status → Docket
with_status d t s status = at d t (moved (d t) (d t).standing s status)

-- machine s has come up
abbrev pub raised : Docket → ℕ → Docket
raised d s = λ t. moved (d t) (d t).standing s (after_up ((d t).status s))
