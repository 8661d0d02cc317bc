-- What a register means, and what a call of it is an event of. Assumes nothing.
use Rattle.std.specs.Prelude.{ℕ, Bool, true, false, cond, List, [], replicate, is_ok, Result, slice_set}
use Rattle.stores.specs.Rows.{StoreState}
use Rattle.orders.specs.Rulebooks.{Rules}
use Rattle.model.specs.Calls.{Call}
use Rattle.model.specs.Docket.{blank, raised}
use Rattle.model.specs.Steps.{Event}
use Rattle.model.specs.World.{World}
use Rattle.register.specs.declared.refusals.Refusal.{Refusal}
use Rattle.register.specs.State.{RegisterState}
use Rattle.register.specs.Refusals.{answer_number}

-- a register without transactions takes no order
abbrev pub no_orders : Rules
no_orders = record { lawful = λ order n. false; mask = λ order n. replicate n false; news = λ order olds. olds }

-- `stores` says what the row means; a register has no transactions yet
abbrev pub world : {R : Type 0} → (R → List StoreState) → RegisterState R → World
world stores r = record { opening = answer_number r.opened; docket = λ _. blank; up = r.up; stores = stores r.row }

-- the world with another flag for one machine
abbrev pub with_up : World → ℕ → Bool → World
with_up w s flag = record { opening = w.opening; docket = w.docket; up = slice_set w.up s flag; stores = w.stores }

-- the world in which machine s has come up
abbrev pub raised_at : World → ℕ → World
raised_at w s = record { opening = w.opening; docket = raised w.docket s; up = slice_set w.up s true; stores = w.stores }

-- a call with its answer, and the values that it gave if it was accepted
abbrev pub called : {A : Type 0} → Call → Result A Refusal → List ℕ → Event
called call r values = record { call = call; number = answer_number r; values = cond (is_ok r) values [] }
