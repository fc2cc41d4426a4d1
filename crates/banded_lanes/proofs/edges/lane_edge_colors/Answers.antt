-- `lane_edge_colors` meets its contract: the loop fills each lane's place by the lane rule's edges. Assumes nothing.
use native.Mathlib.Omega.{arith}
use Rattle.lists.proofs.Padding.{storing_start, storing_turn}
use Rattle.banded_lanes.proofs.edges.lane_edge_colors.Goals as goal

pub loop-i-init : goal.loop-i-init
loop-i-init c = storing_start

pub loop-i-preserved : goal.loop-i-preserved
loop-i-preserved c = storing_turn c.loop-i.invariant (omega arith) (omega arith) c.lane_edge_color.ensures
