-- `clamped_lanes` meets its contract. Assumes nothing.
use native.Mathlib.Omega.{arith}
use lib.Ieee.{of_bits}
use Rattle.lists.proofs.Padding.{storing_start, storing_turn}
use Rattle.lists.proofs.LanesOf.{lanes-stored}
use Rattle.categoric_table.proofs.Table.clamped_lanes.Goals as goal

pub loop-i-init : goal.loop-i-init
unfolding of_bits
loop-i-init c = storing_start

pub loop-i-preserved : goal.loop-i-preserved
loop-i-preserved c = storing_turn c.loop-i.invariant (omega arith) (omega arith) c.clamped.ensures

pub returns : goal.returns
returns c = lanes-stored c.loop-i.invariant (omega arith)
