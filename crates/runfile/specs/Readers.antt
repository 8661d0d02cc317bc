-- What the parts of the readers promise one another. Assumes nothing.
use Rattle.std.specs.Prelude.{◌≡◌, ℕ, ◌+◌, ◌≤◌, Bool, cond, List, [], ◌∷◌, length, take, drop, Some, None, Ok, Option, Result, slice_index}
use Rattle.std.specs.List.{position}
use Rattle.model.specs.Calls.{Call}
use Rattle.runfile.specs.declared.faults.HeaderFault.{HeaderFault}
use Rattle.runfile.specs.declared.faults.HeaderFaultKind.TheVariants.{CountOutOfRange}
use Rattle.runfile.specs.declared.steps.Head.{Head}
use Rattle.runfile.specs.declared.steps.Body.{Body}
use Rattle.runfile.specs.declared.tags.Named.{Named}
use Rattle.runfile.specs.declared.tags.Tag.{Tag}
use Rattle.runfile.specs.Bytes.{le32}
use Rattle.runfile.specs.HeaderFormat.{fault, opening_at, outside, value_place}
use Rattle.runfile.specs.Tags.{call_with}
use Rattle.runfile.specs.StepFormat.{list_length, order_length, unused_filled}

-- the count at a place, from 1 to `most`
abbrev pub count_at : List ℕ → (place most : ℕ) → Result ℕ HeaderFault
count_at file place most = cond (outside most (le32 file place)) (fault CountOutOfRange place) (Ok (le32 file place))

-- where an object's opening value begins, or none where it is past the end and so 0
abbrev pub Placed : List ℕ → (object : ℕ) → Option ℕ → Type 0
Placed file object None = opening_at file object ≡ 0
Placed file object (Some place) = (place ≤ length file) × (place ≡ value_place object)

-- the head of the step at a place, which is whole, and the bytes after it
pub record HeadAt (file : List ℕ) (place : ℕ) (head : Head) : Type 0 where
  pub whole : place + 5 ≤ length file
  pub tag_is : head.tag ≡ slice_index file place
  pub transaction_is : head.transaction ≡ slice_index file (place + 1)
  pub machine_is : head.machine ≡ slice_index file (place + 2)
  pub list_length_is : head.list_length ≡ list_length file place
  pub order_length_is : head.order_length ≡ order_length file place
  pub rest_is : head.rest.now ≡ drop (place + 5) file

-- the fields of a head in their order, each with whether the call names it
abbrev pub rows_of : Named → Head → List (Bool × ℕ)
rows_of named head =
    (named.transaction, head.transaction)
    ∷ (named.machine, head.machine)
    ∷ (named.list, head.list_length)
    ∷ (named.order, head.order_length)
    ∷ []

-- the first field that is filled and unused, counted from the one after the tag
abbrev pub unused_of : Named → Head → Option ℕ
unused_of named head = position (λ (row : Bool × ℕ). unused_filled row.0 row.1) (rows_of named head)

-- the list and the order that follow a head
pub record BodyOf (head : Head) (body : Body) : Type 0 where
  pub whole : head.list_length + head.order_length ≤ length head.rest.now
  pub list_is : body.list.now ≡ take head.list_length head.rest.now
  pub list_length_is : length body.list.now ≡ head.list_length
  pub order_is : body.order.now ≡ take head.order_length (drop head.list_length head.rest.now)
  pub order_length_is : length body.order.now ≡ head.order_length

-- the call of a tag, with what its head and its body hold
abbrev pub call_from : Tag → Head → Body → Call
call_from tag head body = call_with tag head.machine body.list.now
