use Rattle.std.proofs.Common.{rules, ℕ, get_or, None, Option, ap, ◌∙◌, arith}
use borrow.Author.Tests.{tests}
use Rattle.std.proofs.lemmas.Iterator.{YieldsList-from_slice, YieldsList-from_map}
use Rattle.std.proofs.lemmas.Iterator.Adapters.{fits_from_length, at_most_from_yields_List}
use Rattle.std.proofs.lemmas.Iterator.Consumers.{sum_by_from_yields_List}
use Rattle.orders.specs.Rulebooks.{rules_of}
use Rattle.model.specs.Orders.{owes, sum_to}
use Rattle.transactions.specs.declared.entries.Transaction.{Transaction}
use Rattle.transactions.specs.Tables.{slot_entry}
use Rattle.transactions.proofs.Summed.{sum_listed}
use Rattle.transactions.proofs.owing.sum_owed.Goals as goal

pub sum-requires-clause-fits : goal.sum-requires-clause-fits
sum-requires-clause-fits g c =
    fits_from_length _ _ 64 _ (at_most_from_yields_List (YieldsList-from_slice c.args.slots.now cc) (omega arith)) c.map.ensures.closure (omega arith) (λ x r q called. search (rules, tests))

pub returns-clause-sum : goal.returns-clause-sum
returns-clause-sum g c =
    let slots = c.args.slots.now in
    let each : Option Transaction → ℕ = λ slot. owes (rules_of g.B.Rulebook.lawful g.B.Rulebook.mask g.B.Rulebook.news) c.args.machine (slot_entry slot) in
    sum_by_from_yields_List each slots c.map.result _ c.sum.ensures.ran (YieldsList-from_map _ each (YieldsList-from_slice slots cc) c.map.ensures.closure (λ x r q called. search (rules, tests)))
    ∙ sum_listed each slots None
    ∙ ap (λ n. sum_to n (λ k. each (get_or slots k None))) c.told-slots

pub returns-clause-few : goal.returns-clause-few
returns-clause-few g c =
    let run = c.sum.ensures.runs tt in
    let few = fits_from_length _ _ 64 513 (at_most_from_yields_List (YieldsList-from_slice c.args.slots.now cc) (omega arith)) c.map.ensures.closure (omega arith) (λ x r q called. search (rules, tests)) run.0 run.0.seen run.1 in
    omega (arith, few, run.3)
