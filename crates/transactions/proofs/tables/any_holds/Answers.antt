use Rattle.std.proofs.Common.{rules, ◌≡◌, Bool, true, false, None, Option}
use borrow.Author.Tests.{tests}
use Rattle.std.proofs.lemmas.Iterator.{YieldsList-from_slice, cases_from_any}
use Rattle.transactions.specs.declared.entries.Transaction.{Transaction}
use Rattle.transactions.specs.Entries.{holds_in}
use Rattle.transactions.specs.Tables.{slot_entry}
use Rattle.transactions.proofs.Found.{any_listed}
use Rattle.transactions.proofs.tables.any_holds.Goals as goal

pub returns : goal.returns
returns c =
    let slots = c.args.slots.now in
    let test : Option Transaction → Bool = λ slot. holds_in (slot_entry slot) c.args.machine c.args.list.now in
    any_listed test slots None 64 c.told-slots c.any.result
    (cases_from_any _ _ _ (λ slot. test slot ≡ true) (λ slot. test slot ≡ false) c.any.ensures.ran (YieldsList-from_slice slots cc)
    (λ slot q called. search (rules, tests)) (λ slot q called. search (rules, tests)))
