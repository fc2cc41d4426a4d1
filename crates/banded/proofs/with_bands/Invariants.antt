use mathlib.Core.Path.{◌≡◌}
use lib.ListN.{take}
use Rattle.banded.specs.forms.OneByOne.{with_band, folded}
use Rattle.banded.proofs.with_bands.Given as goal

abbrev pub invariant-loop-band : goal.invariant-loop-band
invariant-loop-band l = l.out ≡ folded with_band l.initial.out (take l.band-index l.bands)
