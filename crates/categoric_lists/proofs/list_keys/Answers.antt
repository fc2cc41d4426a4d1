-- `list_keys` meets its contract: the copy, and then the zeros that are left. Assumes nothing.
use Rattle.std.proofs.Common.{ap₂, ◌++◌, length}
use Rattle.std.proofs.lemmas.List.{drop-replicate}
use lib.IntN.{pos}
use Rattle.lists.specs.Padded.{padded}
use Rattle.categoric_lists.proofs.list_keys.Goals as goal

pub returns : goal.returns
unfolding padded
returns c = ap₂ ◌++◌ c.copy_from_slice.ensures.after (drop-replicate (length c.args.values.now) 256 (pos 0))
