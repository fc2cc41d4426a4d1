use Rattle.lists.proofs.Padding.{Storing}
use Rattle.banded_lanes.proofs.nodata_lanes.Given as goal

abbrev pub invariant-loop-i : goal.invariant-loop-i
invariant-loop-i l = Storing 0 (λ k. l.nodata) 16 l.lanes l.i l.result
