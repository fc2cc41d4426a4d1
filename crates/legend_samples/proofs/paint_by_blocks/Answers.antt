-- `paint_by_blocks` meets its contract. Assumes nothing.
use borrow.Author.Rules.{rules}
use native.Mathlib.Omega.{arith}
use lib.ListN.{length-take}
use Rattle.legend_samples.proofs.Blocked.{blocked_start, blocked_turn, blocked_end}
use Rattle.legend_samples.proofs.paint_by_blocks.Goals as goal

pub loop-from-init : goal.loop-from-init
loop-from-init g c = blocked_start (search rules) (search rules)

pub block_as_f32-samples-requires : goal.block_as_f32-samples-requires
block_as_f32-samples-requires g c = simp length-take (omega arith)

pub loop-from-preserved : goal.loop-from-preserved
loop-from-preserved g c =
    blocked_turn c.block_as_f32-samples.result c.loop-from.invariant c.block_end-to.ensures c.block_as_f32-samples.ensures c.block.ensures

pub returns : goal.returns
returns g c = blocked_end c.loop-from.invariant (search rules)
