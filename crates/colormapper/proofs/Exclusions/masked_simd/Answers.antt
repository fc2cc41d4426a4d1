-- `Exclusions::masked_simd` meets its contract. Assumes nothing.
use Rattle.lists.proofs.Padding.{storing_start}
use Rattle.colormapper.proofs.Exclusions.masked_simd.Goals as goal

pub loop-i-init : goal.loop-i-init
loop-i-init c = storing_start
