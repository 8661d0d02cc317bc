use Rattle.std.proofs.Common.{◌==◌, rules, tests}
use Rattle.std.proofs.lemmas.Iterator.Adapters.{YieldsList-from_rev_slice}
use Rattle.std.proofs.lemmas.Iterator.Search.{find_from_yields_List}
use Rattle.stores.proofs.Journal.{newest_from_end}
use Rattle.stores.proofs.entries.newest_value.Goals as goal

pub returns : goal.returns
returns c =
    newest_from_end c.args.entries.now c.args.object c.find.result c.map.result
    (find_from_yields_List (λ e. e.object == c.args.object) _ _ _ c.find.ensures.ran (YieldsList-from_rev_slice c.args.entries.now (search rules)) (λ x b q k. search (rules, tests)))
    (search rules)
