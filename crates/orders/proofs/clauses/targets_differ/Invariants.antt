use Rattle.std.proofs.Common.{◌≡◌, length, map}
use Rattle.orders.specs.Assignments.{clause_of, clauses, targets_differ}
use Rattle.orders.proofs.clauses.targets_differ.Given as goal

-- what is left decides
abbrev pub invariant-loop-rest : goal.invariant-loop-rest
invariant-loop-rest l = targets_differ (map clause_of l.rest) ≡ targets_differ (clauses l.order)

abbrev pub decreases-loop-rest : goal.decreases-loop-rest
decreases-loop-rest l = length l.rest
