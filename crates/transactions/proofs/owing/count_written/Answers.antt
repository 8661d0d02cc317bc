use Rattle.std.proofs.Common.{rules, ◌≡◌, ◌+◌, ℕ, Bool, false, length, get_or, ap, ◌∙◌, arith}
use borrow.Author.Tests.{tests}
use Rattle.std.proofs.lemmas.Iterator.{YieldsList-from_range}
use Rattle.std.proofs.lemmas.Iterator.Consumers.{YieldsList-from_filter, count_from_yields_List}
use Rattle.model.specs.Orders.{count_true}
use Rattle.transactions.proofs.Summed.{count_listed, count_small}
use Rattle.transactions.proofs.owing.count_written.Goals as goal

pub returns : goal.returns
returns g c =
    let mask = g.B.Rulebook.mask c.args.order.now c.args.count in
    let long : length mask ≡ c.args.count = g.met.B.Rulebook.kept.mask_has_each_position c.args.order.now c.args.count in
    let test : ℕ → Bool = λ k. get_or mask k false in
    let counted : c.count.result ≡ count_true mask =
    count_from_yields_List c.filter.result _ c.count.ensures.ran (YieldsList-from_filter _ test (YieldsList-from_range 0 c.args.count (length mask) (cc) (omega arith)) c.filter.ensures.closure (λ x b q called. search (rules, tests)))
    ∙ count_listed mask test 0 (λ k below. ap test {x = 0 + k} {y = k} (omega arith)) in
    record { count = counted; few = omega (arith, count_small mask, long) }
