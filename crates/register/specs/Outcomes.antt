-- The answer number and the values that each outcome stands for. Assumes nothing.
use Rattle.std.specs.Prelude.{ℕ, List, []}
use Rattle.orders.specs.Fixed.{fixed_items}
use Rattle.orders.specs.declared.fixed.FixedVec.{FixedVec}
use Rattle.model.specs.Calls.{Call}
use Rattle.model.specs.Steps.{Event}
use Rattle.register.specs.declared.outcomes.Outcome.{Outcome}
use Rattle.register.specs.declared.outcomes.Outcome.TheVariants.{Done, Read, Refused}
use Rattle.register.specs.Refusals.{refusal_number}

abbrev pub values_list : FixedVec ℕ 8 → List ℕ
values_list = fixed_items

abbrev pub outcome_number : Outcome → ℕ
outcome_number Done = 0
outcome_number (Read values) = 0
outcome_number (Refused refusal) = refusal_number refusal

abbrev pub outcome_values : Outcome → List ℕ
outcome_values Done = []
outcome_values (Read values) = values_list values
outcome_values (Refused refusal) = []

-- the event that a call with this outcome was
abbrev pub event_of : Call → Outcome → Event
event_of call outcome = record { call = call; number = outcome_number outcome; values = outcome_values outcome }
