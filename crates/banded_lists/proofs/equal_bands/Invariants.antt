use mathlib.Core.Path.{◌≡◌}
use lib.ListN.{length}
use Rattle.banded_lists.proofs.Equal.{Laying}
use Rattle.banded_lists.proofs.equal_bands.Given as goal

abbrev pub invariant-loop-i : goal.invariant-loop-i
invariant-loop-i l = (length l.bands ≡ 64) × Laying l.start l.step l.colors l.count l.i l.position l.bands
