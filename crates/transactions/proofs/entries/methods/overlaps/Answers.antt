use Rattle.std.proofs.Common.{rules, ◌∙◌}
use borrow.Author.Tests.{tests}
use Rattle.std.proofs.lemmas.Iterator.{YieldsList-from_slice}
use Rattle.std.proofs.lemmas.Iterator.Search.{any_from_yields_List}
use Rattle.model.specs.Orders.{listed}
use Rattle.transactions.proofs.Found.{listed_any, overlap_any}
use Rattle.transactions.proofs.entries.methods.overlaps.Goals as goal

pub returns : goal.returns
returns c =
    any_from_yields_List (λ x. listed x c.args.those.now) _ _ _ c.any.ensures.ran (YieldsList-from_slice c.args.these.now cc) (λ x b q called. search (rules, tests, listed_any))
    ∙ overlap_any c.args.these.now c.args.those.now
