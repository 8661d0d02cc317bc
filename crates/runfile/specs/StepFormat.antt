-- A step of a run file: five head bytes (tag, transaction, machine, length of the list, length of the order), then the
-- list and the order. Assumes nothing.
use Rattle.std.specs.Prelude.{ℕ, ◌+◌, ◌≤◌, Bool, cond, not, ◌&&◌, List, [], ◌∷◌, length, Some, None, Ok, Err, Option, Result, ◌==◌, nat_lt, slice_index}
use Rattle.model.specs.Calls.{Call, down, up, tidy, read}
use Rattle.runfile.specs.declared.faults.FieldFaultKind.{FieldFaultKind}
use Rattle.runfile.specs.declared.faults.FieldFaultKind.TheVariants.{CutShort, UnknownTag, UnusedNotZero}
use Rattle.runfile.specs.declared.faults.StepFault.{StepFault}
use Rattle.runfile.specs.declared.tags.Tag.{Tag}
use Rattle.runfile.specs.declared.tags.Named.{Named}
use Rattle.runfile.specs.declared.steps.Step.{Step}
use Rattle.runfile.specs.declared.steps.Step.TheVariants.{Down, Up, Tidy, Read}
use Rattle.runfile.specs.Bytes.{part, first_of}
use Rattle.runfile.specs.Tags.{tag_of, named_by, call_with, buffer_length}

-- what stands at a place: a step that is broken at a byte, or a call with the place after its step
pub data Reading : Type 0 where
  broken : (kind : FieldFaultKind) (place : ℕ) → Reading
  found : (call : Call) (next : ℕ) → Reading

abbrev pub list_length : List ℕ → ℕ → ℕ
list_length file place = slice_index file (place + 3)

abbrev pub order_length : List ℕ → ℕ → ℕ
order_length file place = slice_index file (place + 4)

-- the place after the step
abbrev pub step_end : List ℕ → ℕ → ℕ
step_end file place = place + 5 + list_length file place + order_length file place

abbrev pub call_at : Tag → List ℕ → ℕ → Call
call_at tag file place =
    call_with tag (slice_index file (place + 2)) (part file (place + 5) (list_length file place))

-- a field that the call does not name is to be 0
abbrev pub unused_filled : Bool → ℕ → Bool
unused_filled named value = not named && not (value == 0)

-- the fields in their order, each with its place and the test whether it is filled and unused
abbrev pub field_rows : Named → List ℕ → ℕ → List (Bool × Option ℕ)
field_rows named file place =
    (unused_filled named.transaction (slice_index file (place + 1)), Some (place + 1))
    ∷ (unused_filled named.machine (slice_index file (place + 2)), Some (place + 2))
    ∷ (unused_filled named.list (list_length file place), Some (place + 3))
    ∷ (unused_filled named.order (order_length file place), Some (place + 4))
    ∷ []

abbrev pub first_unused : Named → List ℕ → ℕ → Option ℕ
first_unused named file place = first_of (field_rows named file place) None

-- the step of a tag, where its list and its order end inside the file
abbrev pub body_at : Tag → List ℕ → ℕ → Reading
body_at tag file place =
    cond
    (nat_lt (length file) (step_end file place))
    (broken CutShort place)
    (found (call_at tag file place) (step_end file place))

-- the step of a known tag whose head is whole
abbrev pub tagged_at : Tag → List ℕ → ℕ → Reading
tagged_at tag file place =
    elim (first_unused (named_by tag) file place) [ Some b ↦ broken UnusedNotZero b | None ↦ body_at tag file place ]

-- the checks of a step in their order: a whole head, a known tag, no unused field filled, a whole body
abbrev pub step_at : List ℕ → ℕ → Reading
step_at file place =
    cond
    (nat_lt (length file) (place + 5))
    (broken CutShort place)
    (elim (tag_of (slice_index file place)) [ None ↦ broken UnknownTag place | Some tag ↦ tagged_at tag file place ])

-- the call that a step asks for
abbrev pub call_of : Step → Call
call_of (Down machine) = down machine
call_of (Up machine) = up machine
call_of (Tidy machine) = tidy machine
call_of (Read machine list) = read machine list.now buffer_length

-- an answer of the reader, its borrowed parts as what they hold
abbrev pub reading_of : Result (Step × ℕ) StepFault → Reading
reading_of (Ok (step, next)) = found (call_of step) next
reading_of (Err fault) = broken fault.field.kind fault.field.byte

-- a step from `place` to `next` is longer than its head, and lies in the file
pub record Within (file : List ℕ) (place next : ℕ) : Type 0 where
  pub forward : place + 5 ≤ next
  pub inside : next ≤ length file
