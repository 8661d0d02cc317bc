-- The calls of a whole run file, and how it ends. Assumes nothing.
use Rattle.std.specs.Prelude.{ℕ, zero, suc, ◌+◌, List, [], ◌∷◌, Some, None, Ok, Err, Option}
use Rattle.model.specs.Calls.{Call}
use Rattle.runfile.specs.declared.faults.RunFault.{RunFault}
use Rattle.runfile.specs.declared.faults.RunFault.TheVariants.{Header, Step}
use Rattle.runfile.specs.HeaderFormat.{header_of, value_place}
use Rattle.runfile.specs.StepFormat.{broken, found, step_at}

-- the calls of at most `left` steps from a place on, up to the first step that is broken
abbrev pub calls_from : (left : ℕ) → List ℕ → (place : ℕ) → List Call
calls_from zero file place = []
calls_from (suc left) file place =
    elim (step_at file place) [ broken kind at ↦ [] | found call next ↦ call ∷ calls_from left file next ]

-- the fault of the first of these steps that is broken, the step at the place being number `index`
abbrev pub end_from : (left : ℕ) → List ℕ → (place index : ℕ) → Option RunFault
end_from zero file place index = None
end_from (suc left) file place index =
    elim (step_at file place) [
      | broken kind at ↦ Some (Step (record { field = record { kind = kind; byte = at; step = index } }))
      | found call next ↦ end_from left file next (index + 1)
    ]

-- the calls of the file: none where its header is faulty, and else those of the steps that the header counts
abbrev pub calls_of : List ℕ → List Call
calls_of file =
    elim (header_of file) [ Ok header ↦ calls_from header.steps file (value_place header.objects) | Err fault ↦ [] ]

-- the fault that ends the file, if any does
abbrev pub end_of : List ℕ → Option RunFault
end_of file =
    elim (header_of file) [ Ok header ↦ end_from header.steps file (value_place header.objects) 0 | Err fault ↦ Some (Header fault) ]
