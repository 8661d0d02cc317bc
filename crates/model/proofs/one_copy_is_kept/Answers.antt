use Rattle.model.proofs.Law.{law}
use Rattle.model.proofs.one_copy_is_kept.Goals as goal

pub returns : goal.returns
returns c = law
