use Rattle.std.proofs.Common.{◌≡◌, map, take, length}
use Rattle.banded_columns.specs.declared.LegendBand.{LegendBand}
use Rattle.banded_columns.proofs.starts_of.Given as goal

abbrev pub invariant-loop-i : goal.invariant-loop-i
invariant-loop-i l = (length l.starts ≡ 64) × (take l.i l.starts ≡ map (λ (b : LegendBand). b.start) (take l.i l.bands))
