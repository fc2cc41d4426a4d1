-- The first i are stored.
use mathlib.Core.Path.{◌≡◌}
use Rattle.lists.specs.Padded.{padded}
use Rattle.categoric_build.specs.Categories.{colors_of}
use Rattle.card_bytes.specs.Entries.{entries_in}
use Rattle.card_layout.specs.Entries.{category_in}
use Rattle.card_read.proofs.values.colors_in.Given as goal

abbrev pub invariant-loop-i : goal.invariant-loop-i
invariant-loop-i l = l.colors ≡ padded 0 256 (colors_of (entries_in 12 l.i category_in l.entries))
