use lib.ListN.{get_or}
use lib.Ieee.{nan}
use Rattle.lists.proofs.Filling.{Filling}
use Rattle.banded_rule.specs.forms.Steps.{edge_color}
use Rattle.banded_rule.proofs.edge_colors.Given as goal

abbrev pub invariant-loop-i : goal.invariant-loop-i
invariant-loop-i l = Filling 0 (λ k. edge_color l.first l.last l.u (get_or l.value k nan)) 16 16 l.i l.result
