-- `lane_edge_color` meets its contract: its selects are the lane rule's edges. Assumes nothing.
use Rattle.banded_lanes.specs.Edges.{edged}
use Rattle.banded_lanes.proofs.edges.lane_edge_color.Goals as goal

pub returns : goal.returns
unfolding edged
returns c = simp (c.pick.ensures, c.is_within-2.ensures, c.pick-z.ensures, c.is_within.ensures, c.pick-y.ensures, c.pick-x.ensures)
