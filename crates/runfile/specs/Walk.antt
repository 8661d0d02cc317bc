-- The steps of a file, one after the other. Assumes nothing.
use Rattle.std.specs.Prelude.{◌≡◌, ℕ, ◌+◌, ◌<◌, ◌≤◌, List, Some, None, Ok, Err, Option, Result}
use Rattle.runfile.specs.declared.faults.StepFault.{StepFault}
use Rattle.runfile.specs.declared.header.Header.{Header}
use Rattle.runfile.specs.declared.steps.Step.{Step}
use Rattle.runfile.specs.declared.iter.Steps.{Steps}
use Rattle.runfile.specs.HeaderFormat.{value_place}
use Rattle.runfile.specs.StepFormat.{broken, found, call_of, step_at, Within}

-- the steps that a header counts, none of them taken
pub record Begins (file : List ℕ) (header : Header) (s : Steps) : Type 0 where
  pub file_is : s.file.now ≡ file
  pub place_is : s.place ≡ value_place header.objects
  pub first : s.numbers.start ≡ 0
  pub count : s.numbers.end ≡ header.steps

-- a step that is found is taken, and the next stands after it
pub record Taken (s : Steps) (step : Step) (s' : Steps) : Type 0 where
  pub left : s.numbers.start < s.numbers.end
  pub reading : found (call_of step) s'.place ≡ step_at s.file.now s.place
  pub within : Within s.file.now s.place s'.place
  pub file_stays : s'.file.now ≡ s.file.now
  pub number : s'.numbers.start ≡ s.numbers.start + 1
  pub count_stays : s'.numbers.end ≡ s.numbers.end

-- the step is broken, and none is left after it
pub record Refused (s : Steps) (fault : StepFault) (s' : Steps) : Type 0 where
  pub left : s.numbers.start < s.numbers.end
  pub reading : broken fault.field.kind fault.field.byte ≡ step_at s.file.now s.place
  pub numbered : fault.field.step ≡ s.numbers.start
  pub none_left : s'.numbers.end ≤ s'.numbers.start

-- where none is left, none comes later
abbrev pub NextStep : Steps → Option (Result Step StepFault) → Steps → Type 0
NextStep s None s' = (s.numbers.end ≤ s.numbers.start) × (s'.numbers.end ≤ s'.numbers.start)
NextStep s (Some (Ok step)) s' = Taken s step s'
NextStep s (Some (Err fault)) s' = Refused s fault s'
