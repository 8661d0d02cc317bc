use Rattle.model.proofs.Played.{played_as_stepped}
use Rattle.model.proofs.examples_are_runs.Goals as goal

pub returns : goal.returns
returns c = played_as_stepped
