-- The text of a listing, byte by byte: a line for each outcome, and one more where a fault ended the run. Assumes nothing.
use Rattle.std.specs.Prelude.{ℕ, ◌+◌, List, [], ◌∷◌, ◌++◌, Some, None, decimal, Option}
use Rattle.register.specs.declared.outcomes.Outcome.{Outcome}
use Rattle.register.specs.Outcomes.{outcome_number, outcome_values}
use Rattle.runfile.specs.declared.faults.RunFault.{RunFault}
use Rattle.runfile.specs.Faults.{run_number, run_byte, run_step}

-- a number, with a space before it
abbrev pub spaced : ℕ → List ℕ
spaced n = 32 ∷ decimal n

abbrev pub spaced_all : List ℕ → List ℕ
spaced_all [] = []
spaced_all (n ∷ ns) = spaced n ++ spaced_all ns

-- the line feed
abbrev pub line_end : List ℕ
line_end = 10 ∷ []

-- what came of a step: its number, the answer number, and the values that a read gave
abbrev pub line : (step : ℕ) → Outcome → List ℕ
line step outcome = decimal step ++ (spaced (outcome_number outcome) ++ (spaced_all (outcome_values outcome) ++ line_end))

-- the lines of outcomes in turn, the first of them the outcome of the given step
abbrev pub lines_from : ℕ → List Outcome → List ℕ
lines_from step [] = []
lines_from step (outcome ∷ outcomes) = line step outcome ++ lines_from (step + 1) outcomes

-- "fault "
abbrev pub fault_word : List ℕ
fault_word = 102 ∷ 97 ∷ 117 ∷ 108 ∷ 116 ∷ 32 ∷ []

-- " byte "
abbrev pub byte_word : List ℕ
byte_word = 32 ∷ 98 ∷ 121 ∷ 116 ∷ 101 ∷ 32 ∷ []

-- " step "
abbrev pub step_word : List ℕ
step_word = 32 ∷ 115 ∷ 116 ∷ 101 ∷ 112 ∷ 32 ∷ []

-- the step of a fault, if it belongs to one
abbrev pub step_part : Option ℕ → List ℕ
step_part None = []
step_part (Some step) = step_word ++ decimal step

-- the fault's number, its byte and its step
abbrev pub fault_line : RunFault → List ℕ
fault_line fault = fault_word ++ (decimal (run_number fault) ++ (byte_word ++ (decimal (run_byte fault) ++ (step_part (run_step fault) ++ line_end))))

-- the line of the fault that ended the run, if one did
abbrev pub fault_part : Option RunFault → List ℕ
fault_part None = []
fault_part (Some fault) = fault_line fault

abbrev pub listing_text : List Outcome → Option RunFault → List ℕ
listing_text outcomes fault = lines_from 0 outcomes ++ fault_part fault
