-- The tags of the steps: the byte of each, which fields its call names, and the call that it makes. Assumes nothing.
use Rattle.std.specs.Prelude.{ℕ, Bool, true, false, List, [], ◌∷◌, Some, None, Option, ◌==◌}
use Rattle.model.specs.Calls.{Call, down, up, tidy, read}
use Rattle.runfile.specs.declared.tags.Tag.{Tag}
use Rattle.runfile.specs.declared.tags.Tag.TheVariants.{Down, Up, Tidy, Read}
use Rattle.runfile.specs.declared.tags.Named.{Named}
use Rattle.runfile.specs.Bytes.{first_of}

-- the known tags, each beside the test for its byte
abbrev pub tag_rows : ℕ → List (Bool × Option Tag)
tag_rows b =
    ((b == 11), Some Down)
    ∷ ((b == 12), Some Up)
    ∷ ((b == 13), Some Tidy)
    ∷ ((b == 14), Some Read)
    ∷ []

abbrev pub tag_of : ℕ → Option Tag
tag_of b = first_of (tag_rows b) None

-- whether a call names the transaction, the machine, the list and the order
abbrev pub naming : (t s list order : Bool) → Named
naming t s list order = record { transaction = t; machine = s; list = list; order = order }

abbrev pub named_by : Tag → Named
named_by Down = naming false true false false
named_by Up = naming false true false false
named_by Tidy = naming false true false false
named_by Read = naming false true true false

-- the buffer that is lent to a read
abbrev pub buffer_length : ℕ
buffer_length = 8

-- the call of a tag, with what its fields hold
abbrev pub call_with : Tag → (s : ℕ) (list : List ℕ) → Call
call_with Down s list = down s
call_with Up s list = up s
call_with Tidy s list = tidy s
call_with Read s list = read s list buffer_length
