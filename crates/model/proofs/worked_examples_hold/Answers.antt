use Rattle.model.proofs.Played.{examples_hold}
use Rattle.model.proofs.worked_examples_hold.Goals as goal

pub returns : goal.returns
returns c = examples_hold
