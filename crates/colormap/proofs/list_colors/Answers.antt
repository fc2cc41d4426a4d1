-- `list_colors` meets its contract: the copy, and then the zeros that are left. Assumes nothing.
use Rattle.std.proofs.Common.{ap₂, ◌++◌, length}
use Rattle.std.proofs.lemmas.List.{drop-replicate}
use Rattle.lists.specs.Padded.{padded}
use Rattle.colormap.proofs.list_colors.Goals as goal

pub returns : goal.returns
unfolding padded
returns c = ap₂ ◌++◌ c.copy_from_slice.ensures.after (drop-replicate (length c.args.colors.now) 256 0)
