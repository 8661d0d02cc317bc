-- The header of a run file: four numbers of four bytes, and then an opening value for each object. Assumes nothing.
use Rattle.std.specs.Prelude.{◌≡◌, ℕ, zero, suc, ◌+◌, ◌*◌, ◌≤◌, Bool, not, ◌||◌, List, [], ◌∷◌, length, Ok, Err, Result, ◌==◌, nat_lt}
use Rattle.runfile.specs.declared.faults.HeaderFault.{HeaderFault}
use Rattle.runfile.specs.declared.faults.HeaderFaultKind.{HeaderFaultKind}
use Rattle.runfile.specs.declared.faults.HeaderFaultKind.TheVariants.{TooShort, WrongLength, ValuesPastEnd, CountOutOfRange}
use Rattle.runfile.specs.declared.header.Header.{Header}
use Rattle.runfile.specs.Bytes.{le32, first_of}

abbrev pub machine_count : List ℕ → ℕ
machine_count file = le32 file 0

abbrev pub object_count : List ℕ → ℕ
object_count file = le32 file 4

abbrev pub step_count : List ℕ → ℕ
step_count file = le32 file 8

abbrev pub total_length : List ℕ → ℕ
total_length file = le32 file 12

-- the place of an object's opening value; past the last of them the steps begin
abbrev pub value_place : ℕ → ℕ
value_place object = 16 + 4 * object

-- a count is from 1 to `most`, and this one is not
abbrev pub outside : (most count : ℕ) → Bool
outside most count = nat_lt count 1 || nat_lt most count

abbrev pub fault : {A : Type 0} → HeaderFaultKind → ℕ → Result A HeaderFault
fault kind place = Err (record { kind = kind; byte = place })

-- the checks of a header in their order, each with the fault that it finds
abbrev pub header_checks : List ℕ → List (Bool × Result Header HeaderFault)
header_checks file =
    (nat_lt (length file) 16, fault TooShort (length file))
    ∷ (nat_lt 65536 (length file) || not (total_length file == length file), fault WrongLength 12)
    ∷ (outside 8 (machine_count file), fault CountOutOfRange 0)
    ∷ (outside 256 (object_count file), fault CountOutOfRange 4)
    ∷ (nat_lt (length file) (value_place (object_count file)), fault ValuesPastEnd 12)
    ∷ []

abbrev pub header_of : List ℕ → Result Header HeaderFault
header_of file =
    first_of
    (header_checks file)
    (Ok (record { machines = machine_count file; objects = object_count file; steps = step_count file }))

-- what holds of a header that has passed its checks
pub record Sound (file : List ℕ) (header : Header) : Type 0 where
  pub some_machine : 1 ≤ header.machines
  pub machines_bound : header.machines ≤ 8
  pub some_object : 1 ≤ header.objects
  pub objects_bound : header.objects ≤ 256
  pub values_inside : value_place header.objects ≤ length file
  pub length_bound : length file ≤ 65536
  pub machines_are : header.machines ≡ machine_count file
  pub objects_are : header.objects ≡ object_count file
  pub steps_are : header.steps ≡ step_count file

abbrev pub opening_at : List ℕ → ℕ → ℕ
opening_at file object = le32 file (value_place object)

-- the opening values of `left` objects from `object` on
abbrev pub values_from : List ℕ → (left : ℕ) → (object : ℕ) → List ℕ
values_from file zero object = []
values_from file (suc left) object = opening_at file object ∷ values_from file left (object + 1)

-- the opening value of each object that the header counts
abbrev pub opening_values : List ℕ → List ℕ
opening_values file = values_from file (object_count file) 0
