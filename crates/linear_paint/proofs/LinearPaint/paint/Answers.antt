-- `LinearPaint::paint` meets its contract. Assumes nothing.
use mathlib.Core.Path.{◌∙◌}
use native.Mathlib.Omega.{arith}
use lib.ListN.{length-map}
use Rattle.painting.proofs.Steps.{counted_turn, counted_end}
use Rattle.painting.proofs.Splitting.{plain_in_blocks}
use Rattle.linear_paint.proofs.LinearPaint.paint.Goals as goal

pub loop-k-preserved : goal.loop-k-preserved
loop-k-preserved c = counted_turn c.loop-k.invariant (omega arith) (omega arith) (λ xs. length-map xs _) c.block.ensures

pub returns : goal.returns
returns c = c.rest.ensures ∙ counted_end c.loop-k.invariant (omega arith) (omega arith) (omega arith) ∙ plain_in_blocks 16 _ _
