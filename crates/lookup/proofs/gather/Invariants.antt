use lib.ListN.{get_or}
use Rattle.lists.proofs.Padding.{Storing}
use lib.Ieee.{nan}
use Rattle.floats.specs.RampIndex.{lane_index}
use Rattle.lookup.specs.forms.UnitOrZero.{unit_or_zero}
use Rattle.lookup.proofs.gather.Given as goal

abbrev pub invariant-loop-i : goal.invariant-loop-i
invariant-loop-i l = Storing 0 (λ k. get_or l.cmap (lane_index (unit_or_zero (get_or l.fraction k nan))) 0) 16 l.lanes l.i l.result
