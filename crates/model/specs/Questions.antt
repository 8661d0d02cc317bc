-- The questions, which change nothing. Assumes nothing.
use Rattle.std.specs.Prelude.{ℕ, zero, suc, Bool, cond, not, ◌&&◌, [], ◌∷◌, Some, None, Option, nat_lt}
use Rattle.model.specs.Checks.{first, not_opened, no_such_machine}
use Rattle.model.specs.Docket.{Docket}
use Rattle.model.specs.Orders.{listed, transactions}
use Rattle.model.specs.Statuses.{is_holding}
use Rattle.model.specs.World.{World, objects}

-- the question for the value of an object in a copy
abbrev pub value_answer : ℕ → ℕ → World → ℕ
value_answer s object w = first (not_opened w ∷ no_such_machine w s ∷ (3, not (nat_lt object (objects w))) ∷ [])

-- the lowest number below n that passes the test, if one does
abbrev pub lowest : ℕ → (ℕ → Bool) → Option ℕ
lowest zero test = None
lowest (suc n) test = elim (lowest n test) [ Some k ↦ Some k | None ↦ cond (test n) (Some n) None ]

-- the transaction that holds the object at machine s, if there is one; in a run there is never another
abbrev pub holder : Docket → ℕ → ℕ → Option ℕ
holder d s object = lowest transactions (λ t. is_holding ((d t).status s) && listed object (d t).objects)
