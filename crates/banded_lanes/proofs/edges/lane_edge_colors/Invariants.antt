use lib.ListN.{get_or}
use lib.Ieee.{nan}
use Rattle.lists.proofs.Padding.{Storing}
use Rattle.banded_lanes.specs.Edges.{lane_edge_color}
use Rattle.banded_lanes.proofs.edges.lane_edge_colors.Given as goal

abbrev pub invariant-loop-i : goal.invariant-loop-i
invariant-loop-i l = Storing 0 (λ k. lane_edge_color l.first l.last l.u (get_or l.value k nan) (get_or l.color k 0)) 16 l.lanes l.i l.result
