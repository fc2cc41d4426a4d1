-- `colors_at` meets its contract: the loop fills each index with the colour that stands at the lane's index. Assumes nothing.
use native.Mathlib.Omega.{arith}
use Rattle.lists.proofs.Padding.{storing_start, storing_turn}
use Rattle.banded_search.proofs.colors_at.Goals as goal

pub loop-i-init : goal.loop-i-init
loop-i-init c = storing_start

pub loop-i-preserved : goal.loop-i-preserved
loop-i-preserved c = storing_turn c.loop-i.invariant (omega arith) (omega arith) c.pick.ensures
