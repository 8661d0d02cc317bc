use Rattle.std.proofs.Common.{rules, ◌≡◌, Bool, true, false, None, Option, ◌∙◌}
use borrow.Author.Tests.{tests}
use Rattle.std.proofs.lemmas.Iterator.{YieldsList-from_slice, IsFirst-from_position}
use Rattle.transactions.specs.declared.entries.Transaction.{Transaction}
use Rattle.transactions.specs.Entries.{holds_object}
use Rattle.transactions.specs.Tables.{slot_entry}
use Rattle.transactions.proofs.Found.{lowest_listed}
use Rattle.transactions.proofs.tables.find_holder.Goals as goal

pub returns : goal.returns
returns c =
    let slots = c.args.slots.now in
    let test : Option Transaction → Bool = λ slot. holds_object (slot_entry slot) c.args.machine c.args.object in
    let same : c.map.result ≡ c.position.result = search rules in
    same
    ∙ lowest_listed test slots None 64 c.told-slots c.position.result
    (IsFirst-from_position _ _ _ (λ slot. test slot ≡ true) (λ slot. test slot ≡ false) c.position.ensures.ran (YieldsList-from_slice slots cc)
    (λ slot q called. search (rules, tests)) (λ slot q called. search (rules, tests)))
