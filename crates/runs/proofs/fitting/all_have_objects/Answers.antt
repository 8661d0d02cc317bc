use Rattle.std.proofs.Common.{rules}
use borrow.Author.Tests.{tests}
use Rattle.model.proofs.Ranges.{all_to_from_run}
use Rattle.runs.specs.Fitting.{has_objects}
use Rattle.runs.proofs.fitting.all_have_objects.Goals as goal

pub returns : goal.returns
returns g c = all_to_from_run _ (has_objects (g.R.Row.stores c.args.row.now) c.args.objects) _ _ _ c.count.ensures c.all.ensures.runs (λ a r q called. search (rules, tests)) (λ k b q below called. search (rules, tests))
