-- `lane_index` meets its contract. Assumes nothing.
use lib.Ieee.{le, of_bits}
use Rattle.floats.proofs.Order.{lt_le}
use native.Mathlib.Omega.{arith}
use mathlib.Core.Path.{sym, ◌∙◌}
use Rattle.lookup.proofs.Lookups.{holds}
use Rattle.floats.proofs.RampBounds.{plus_from_0, plus_below_256, lane-is, lane_le}
use Rattle.lookup.proofs.lane_index.Goals as goal

pub floor-requires : goal.floor-requires
unfolding of_bits
floor-requires c = let h = holds c.requires in record { from_zero = plus_from_0 _ h; below_1024 = lt_le _ _ _ (plus_below_256 _ h) (unfold le in tt) }

pub returns : goal.returns
unfolding of_bits
returns c = let e = c.floor.ensures ∙ sym (lane-is _ (holds c.requires)) in (e, omega (arith, lane_le c.args.fraction))
