use mathlib.Core.Path.{◌≡◌}
use lib.ListN.{length, get_or}
use Rattle.lists.proofs.Padding.{Storing}
use Rattle.banded_lists.specs.Padded.{blank_band}
use Rattle.banded_lists.specs.ManualRanges.{band_of}
use Rattle.banded_lists.proofs.Past.{no_range}
use Rattle.banded_lists.proofs.range_bands.Given as goal

abbrev pub invariant-loop-i : goal.invariant-loop-i
invariant-loop-i l =
    (length l.bands ≡ 64) × Storing blank_band (λ k. band_of (get_or l.ranges k no_range) (get_or l.colors k 0)) 64 (length l.ranges) l.i l.bands
