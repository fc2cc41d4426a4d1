-- The first i are stored.
use mathlib.Core.Path.{◌≡◌}
use lib.IntN.{pos}
use Rattle.lists.specs.Padded.{padded}
use Rattle.categoric_build.specs.Categories.{keys_of}
use Rattle.card_bytes.specs.Entries.{entries_in}
use Rattle.card_layout.specs.Entries.{category_in}
use Rattle.card_read.proofs.values.keys_in.Given as goal

abbrev pub invariant-loop-i : goal.invariant-loop-i
invariant-loop-i l = l.keys ≡ padded (pos 0) 256 (keys_of (entries_in 12 l.i category_in l.entries))
