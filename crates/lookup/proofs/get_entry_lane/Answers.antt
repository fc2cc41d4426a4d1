-- `get_entry_lane` meets its contract. Assumes nothing.
use Rattle.std.specs.Prelude.{Some}
use mathlib.Core.Path.{ap, ◌∙◌}
use Rattle.lookup.proofs.Lookups.{both_hold, second_fails, first_fails, lane_inside, lane-outside}
use lib.Ieee.{of_bits}
use Rattle.lookup.proofs.get_entry_lane.Goals as goal

pub lane_index-requires : goal.lane_index-requires
unfolding of_bits
lane_index-requires c = both_hold _ c.if-fraction.true c.if-fraction-2.true

pub returns-then-fraction-2 : goal.returns-then-fraction-2
unfolding of_bits
returns-then-fraction-2 c = ap Some c.lane_index.ensures.0 ∙ lane_inside _ (both_hold _ c.if-fraction.true c.if-fraction-2.true)

pub returns-else-fraction-2 : goal.returns-else-fraction-2
unfolding of_bits
returns-else-fraction-2 c = lane-outside _ (second_fails _ c.if-fraction.true c.if-fraction-2.false)

pub returns-else-fraction : goal.returns-else-fraction
unfolding of_bits
returns-else-fraction c = lane-outside _ (first_fails _ c.if-fraction.false)
