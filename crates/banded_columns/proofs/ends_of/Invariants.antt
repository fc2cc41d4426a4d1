use Rattle.std.proofs.Common.{◌≡◌, map, take, length}
use Rattle.banded_columns.specs.declared.LegendBand.{LegendBand}
use Rattle.banded_columns.proofs.ends_of.Given as goal

abbrev pub invariant-loop-i : goal.invariant-loop-i
invariant-loop-i l = (length l.ends ≡ 64) × (take l.i l.ends ≡ map (λ (b : LegendBand). b.end) (take l.i l.bands))
