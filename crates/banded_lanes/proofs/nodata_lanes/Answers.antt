-- `nodata_lanes` meets its contract. Assumes nothing.
use mathlib.Core.Path.{refl}
use native.Mathlib.Omega.{arith}
use Rattle.lists.proofs.Padding.{storing_start, storing_turn}
use Rattle.banded_lanes.proofs.nodata_lanes.Goals as goal

pub loop-i-init : goal.loop-i-init
loop-i-init c = storing_start

pub loop-i-preserved : goal.loop-i-preserved
loop-i-preserved c = storing_turn c.loop-i.invariant (omega arith) (omega arith) refl
