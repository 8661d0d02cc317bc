use Rattle.std.proofs.Common.{◌≡◌, ℕ, ◌<◌, ◌≤◌, None, get_or}
use Rattle.model.specs.Docket.{raised}
use Rattle.transactions.specs.Tables.{docket_in}
use Rattle.transactions.proofs.tables.raise_all.Given as goal

-- the slots before this one are raised, the others as they were
abbrev pub invariant-loop-slot : goal.invariant-loop-slot
invariant-loop-slot l = record {
  below : (t : ℕ) → t < l.slot-index → docket_in l.slots t ≡ raised (docket_in l.initial.slots) l.machine t;
  rest : (t : ℕ) → l.slot-index ≤ t → get_or l.slots t None ≡ get_or l.initial.slots t None;
}
