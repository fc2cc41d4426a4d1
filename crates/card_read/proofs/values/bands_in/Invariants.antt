-- The first i are stored.
use mathlib.Core.Path.{◌≡◌}
use Rattle.banded_lists.specs.Padded.{padded_bands}
use Rattle.card_bytes.specs.Entries.{entries_in}
use Rattle.card_layout.specs.Entries.{band_in}
use Rattle.card_read.proofs.values.bands_in.Given as goal

abbrev pub invariant-loop-i : goal.invariant-loop-i
invariant-loop-i l = l.bands ≡ padded_bands (entries_in 12 l.i band_in l.entries)
