use mathlib.Core.Path.{◌≡◌}
use Prim.Native.Nat.{◌-◌}
use lib.ListN.{drop}
use Rattle.banded_rule.specs.forms.Columns.{nth_band, bands_of}
use Rattle.banded_rule.specs.PlainRule.{plain_color}
use Rattle.banded_rule.specs.forms.Steps.{first_color, edge_color}
use Rattle.banded_rule.proofs.color_for_numeric_value.Given as goal

abbrev pub invariant-loop-i : goal.invariant-loop-i
invariant-loop-i l =
    first_color (drop l.i (bands_of l.columns)) l.value (edge_color (nth_band l.columns 0) (nth_band l.columns (l.columns.count - 1)) l.u l.value)
    ≡ plain_color (bands_of l.columns) l.u l.value
