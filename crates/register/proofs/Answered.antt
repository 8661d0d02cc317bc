-- A refusal stands whatever would be checked after it. Assumes nothing.
use Rattle.std.proofs.Common.{◌≡◌, true, false, List, [], ◌∷◌, ◌++◌, sym, refl, ◌∙◌, arith}
use Rattle.orders.specs.declared.faults.ListFault.TheVariants.{Length, Object, Order}
use Rattle.model.specs.Checks.{Check, first}
use Rattle.register.specs.Refusals.{refusal_number}
use Rattle.register.specs.declared.refusals.Refusal.{Refusal}
use Rattle.register.specs.declared.refusals.Refusal.TheVariants.{NoSuchMachine, List as BadList, NoSuchObject, ShortBuffer, MachineDown, AlreadyDown, AlreadyUp, MachineCount, ObjectCounts, CopiesDiffer}

first_stays : (checks more : List Check) → (first checks ≡ 0 → ⊥) → first (checks ++ more) ≡ first checks
first_stays [] more refused = absurd (refused refl)
first_stays ((number, true) ∷ checks) more refused = refl
first_stays ((number, false) ∷ checks) more refused = first_stays checks more refused

-- no refusal is answered as accepted
refusal_not_zero : (refusal : Refusal) → refusal_number refusal ≡ 0 → ⊥
refusal_not_zero NoSuchMachine e = omega arith
refusal_not_zero (BadList Length) e = omega arith
refusal_not_zero (BadList Object) e = omega arith
refusal_not_zero (BadList Order) e = omega arith
refusal_not_zero NoSuchObject e = omega arith
refusal_not_zero ShortBuffer e = omega arith
refusal_not_zero MachineDown e = omega arith
refusal_not_zero AlreadyDown e = omega arith
refusal_not_zero AlreadyUp e = omega arith
refusal_not_zero MachineCount e = omega arith
refusal_not_zero ObjectCounts e = omega arith
refusal_not_zero CopiesDiffer e = omega arith

pub refusal_stands : (refusal : Refusal) (checks more : List Check) → refusal_number refusal ≡ first checks → refusal_number refusal ≡ first (checks ++ more)
refusal_stands refusal checks more e =
    e ∙ sym (first_stays checks more (λ zero. refusal_not_zero refusal (e ∙ zero)))
