use Rattle.std.proofs.Common.{rules}
use borrow.Author.Tests.{tests}
use Rattle.model.specs.Opening.{same_counts}
use Rattle.model.proofs.Ranges.{all_to_from_run}
use Rattle.register.proofs.opening.counts_agree.Goals as goal

pub returns : goal.returns
returns g c = all_to_from_run _ (same_counts (g.R.Row.stores c.args.row.now)) _ _ _ c.count.ensures c.all.ensures.runs (λ a r q called. search (rules, tests)) (λ k b q below called. search (rules, tests))
