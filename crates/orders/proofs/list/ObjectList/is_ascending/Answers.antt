use Rattle.std.proofs.Common.{rules, tests, ltb}
use Rattle.std.proofs.lemmas.List.Sorted.{answers_always}
use Rattle.orders.proofs.Checks.{ascends_stepwise}
use Rattle.orders.proofs.list.ObjectList.is_ascending.Goals as goal

pub returns : goal.returns
returns c = ascends_stepwise _ _ (c.is_sorted_by.ensures.cases ltb (answers_always _ _ _ (λ f a r f' k. search (rules, tests))))
