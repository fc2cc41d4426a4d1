use Rattle.std.proofs.Common.{◌≡◌, map, take, length}
use Rattle.banded_columns.specs.declared.LegendBand.{LegendBand}
use Rattle.banded_columns.proofs.colors_of.Given as goal

abbrev pub invariant-loop-i : goal.invariant-loop-i
invariant-loop-i l = (length l.colors ≡ 64) × (take l.i l.colors ≡ map (λ (b : LegendBand). b.color) (take l.i l.bands))
