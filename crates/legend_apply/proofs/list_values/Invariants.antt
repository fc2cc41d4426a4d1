use lib.Ieee.{nan}
use Rattle.lists.proofs.Filling.{Filling}
use Rattle.legend_apply.specs.ColorLists.{value_at}
use Rattle.legend_apply.proofs.list_values.Given as goal

abbrev pub invariant-loop-i : goal.invariant-loop-i
invariant-loop-i l = Filling nan (value_at l.range) 256 256 l.i l.values
