use lib.ListN.{get_or, drop}
use lib.Ieee.{nan}
use Rattle.lists.specs.Lanes.{Lanes}
use Rattle.banded_rule.specs.forms.Columns.{bands_of}
use Rattle.banded_rule.specs.forms.Steps.{first_color}
use Rattle.banded_rule.proofs.first_colors.Given as goal

abbrev pub invariant-loop-i : goal.invariant-loop-i
invariant-loop-i l = Lanes 0 16 l.result (λ k. first_color (drop l.i (bands_of l.columns)) (get_or l.value k nan) (get_or l.initial.result k 0))
