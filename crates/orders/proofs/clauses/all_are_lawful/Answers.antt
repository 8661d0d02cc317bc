use Rattle.std.proofs.Common.{rules, tests, ap, ◌∙◌}
use Rattle.std.proofs.lemmas.Iterator.{YieldsList-from_slice}
use Rattle.std.proofs.lemmas.Iterator.Search.{all_from_yields_List}
use Rattle.orders.specs.Assignments.{clause_lawful, clause_of, clauses_lawful}
use Rattle.orders.proofs.Pieces.{lawful_as_all}
use Rattle.orders.proofs.clauses.all_are_lawful.Goals as goal

pub returns : goal.returns
returns c =
    all_from_yields_List (λ piece. clause_lawful c.args.count (clause_of piece)) _ _ _ c.all.ensures.ran (YieldsList-from_slice c.split.result.now (cc)) (λ x b q k. search (rules, tests))
    ∙ lawful_as_all c.args.count c.split.result.now
    ∙ ap (clauses_lawful c.args.count) c.split.ensures
