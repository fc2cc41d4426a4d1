-- `linear_map_to_float_simd` meets its contract. Assumes nothing.
use lib.Ieee.{of_bits}
use Rattle.lists.proofs.Padding.{storing_start}
use Rattle.interpolate.proofs.linear_map_to_float_simd.Goals as goal

-- the code's 0.0 is the definition's, as both compute
pub loop-i-init : goal.loop-i-init
unfolding of_bits
loop-i-init c = storing_start
