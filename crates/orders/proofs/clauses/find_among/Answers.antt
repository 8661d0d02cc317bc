use Rattle.std.proofs.Common.{rules, tests, map, eqb, sym, ◌∙◌}
use Rattle.std.proofs.lemmas.Iterator.{YieldsList-from_slice, YieldsList-from_map}
use Rattle.std.proofs.lemmas.Iterator.Adapters.{option_map_id}
use Rattle.std.proofs.lemmas.Iterator.Search.{find_from_yields_List}
use Rattle.orders.specs.declared.clauses.Clause.{Clause}
use Rattle.orders.specs.Assignments.{clause_of}
use Rattle.orders.proofs.Pieces.{found_as_clause_for}
use Rattle.orders.proofs.clauses.find_among.Goals as goal

pub returns : goal.returns
returns c =
    let found = find_from_yields_List {v = λ (x : Clause). x} (λ (x : Clause). eqb x.target c.args.position) _ _ c.find.result c.find.ensures.ran (YieldsList-from_map _ clause_of (YieldsList-from_slice c.args.list.now (cc)) c.map.ensures.closure (λ x r q k. search rules)) (λ x b q k. search (rules, tests)) in
    sym (option_map_id c.find.result) ∙ found ∙ found_as_clause_for c.args.position (map clause_of c.args.list.now)
