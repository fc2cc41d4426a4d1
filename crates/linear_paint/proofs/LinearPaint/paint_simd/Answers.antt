-- `LinearPaint::paint_simd` meets its contract. Assumes nothing.
use mathlib.Core.Path.{◌∙◌}
use native.Mathlib.Omega.{arith}
use lib.ListN.{length-map}
use Rattle.painting.proofs.Masking.{length-masked}
use Rattle.painting.proofs.Refusals.{lane_sizes}
use Rattle.painting.proofs.Steps.{counted_turn, counted_end}
use Rattle.linear_paint.proofs.LinearPaint.paint_simd.Goals as goal

pub loop-k-preserved : goal.loop-k-preserved
loop-k-preserved c =
    counted_turn c.loop-k.invariant (lane_sizes _ c.requires.0).0 (omega arith) (λ xs. length-masked _ _ xs _ (length-map xs _)) c.chunk.ensures

pub returns : goal.returns
returns c = c.rest.ensures ∙ counted_end c.loop-k.invariant (lane_sizes _ c.requires.0).0 (omega arith) (omega arith)
