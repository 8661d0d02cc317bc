use Rattle.std.proofs.Common.{string_bytes}
use Rattle.listings.proofs.Chosen.{listed_unsound}
use Rattle.listings.proofs.listed.list_unsound.Goals as goal

pub returns : goal.returns
returns c = listed_unsound string_bytes c.args.file.now c.args.fault c.requires c.list_nothing.result c.list_nothing.ensures
