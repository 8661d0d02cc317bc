use Rattle.std.proofs.Common.{◌≡◌, List, ℕ, Option, rules, sym, subst}
use Rattle.orders.specs.declared.movement.Movement.{Movement}
use Rattle.orders.specs.Transfers.{MovementSettles, movement_of}
use Rattle.orders.specs.TransferLaws.{movement_settles}
use Rattle.orders.proofs.movement.Movement.read.Goals as goal

settles : (order : List ℕ) (found : Option Movement) → found ≡ movement_of order → MovementSettles order found
settles order found read = subst (MovementSettles order) (sym read) (movement_settles order)

pub returns-in_err-giver : goal.returns-in_err-giver
returns-in_err-giver c = settles _ _ (search rules)

pub returns : goal.returns
returns c = settles _ _ (search rules)
