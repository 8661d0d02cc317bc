-- The answer number of each refusal, and of each answer. Assumes nothing.
use Rattle.std.specs.Prelude.{ℕ, Ok, Err, Result}
use Rattle.orders.specs.Lists.{list_fault_number}
use Rattle.register.specs.declared.refusals.Refusal.{Refusal}
use Rattle.register.specs.declared.refusals.Refusal.TheVariants.{NoSuchMachine, List, NoSuchObject, ShortBuffer, MachineDown, AlreadyDown, AlreadyUp, MachineCount, ObjectCounts, CopiesDiffer}

abbrev pub refusal_number : Refusal → ℕ
refusal_number NoSuchMachine = 1
refusal_number (List fault) = list_fault_number fault
refusal_number NoSuchObject = 3
refusal_number ShortBuffer = 7
refusal_number MachineDown = 17
refusal_number AlreadyDown = 18
refusal_number AlreadyUp = 18
refusal_number MachineCount = 20
refusal_number ObjectCounts = 21
refusal_number CopiesDiffer = 22

-- accepted is 0
abbrev pub answer_number : {A : Type 0} → Result A Refusal → ℕ
answer_number (Ok x) = 0
answer_number (Err refusal) = refusal_number refusal
