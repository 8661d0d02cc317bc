-- The checks that an accepted call has passed. Assumes nothing.
use Rattle.std.proofs.Common.{◌≡◌, Bool, true, false, not, ◌&&◌, eqb, List, [], ◌∷◌}
use Rattle.std.proofs.lemmas.Bool.{and_parts, not-true, eqb-false, eq-eqb, not_from_true, cond-false, ne_eqb, not_from_false, cond-true}
use Rattle.orders.specs.Rulebooks.{Rules}
use Rattle.model.specs.Calls.{Call}
use Rattle.model.specs.Checks.{Check, first, checks, answer}
use Rattle.model.specs.World.{World}
use Rattle.model.proofs.Counts.{first_passes}

-- none of the checks fails
abbrev pub Passed : List Check → Type 0
Passed [] = Unit {0}
Passed (check ∷ rest) = (check.1 ≡ false) × Passed rest

-- no check answers 0
abbrev pub numbered : List Check → Bool
numbered [] = true
numbered (check ∷ rest) = not (eqb check.0 0) && numbered rest

pub passed : (list : List Check) → numbered list ≡ true → first list ≡ 0 → Passed list
passed [] some none = tt
passed (check ∷ rest) some none =
    let parts = and_parts (not (eqb check.0 0)) (numbered rest) some in
    let p = first_passes check rest (eqb-false check.0 0 (not-true (eqb check.0 0) parts.0)) none in
    (p.0, passed rest parts.1 p.1)

-- on a register that is well opened the answer is that of the call's own checks
pub well_answer : (rules : Rules) (call : Call) (w : World) → w.opening ≡ 0 → answer rules call w ≡ first (checks rules call w)
well_answer rules call w well = cond-false _ _ _ (not_from_true _ (eq-eqb _ _ well))

-- and on one that is not it is the number of the opening
pub refused_answer : (rules : Rules) (call : Call) (w : World) → (w.opening ≡ 0 → ⊥) → answer rules call w ≡ w.opening
refused_answer rules call w other = cond-true _ _ _ (not_from_false _ (ne_eqb _ _ other))
