-- `paint_by_table_simd` meets its contract. Assumes nothing.
use native.Mathlib.Omega.{arith}
use mathlib.Core.Path.{◌∙◌}
use lib.ListN.{length-map}
use Rattle.painting.proofs.Refusals.{lane_sizes}
use Rattle.painting.proofs.Masking.{length-masked}
use Rattle.categoric_paint.proofs.Chunks.{counted_turn, counted-end}
use Rattle.categoric_paint.proofs.table.paint_by_table_simd.Goals as goal

pub loop-k-preserved : goal.loop-k-preserved
loop-k-preserved c =
    counted_turn c.loop-k.invariant (lane_sizes _ c.requires.0).0 (omega arith) (λ xs. length-masked _ _ xs _ (length-map xs _)) c.chunk.ensures

pub returns : goal.returns
returns c = c.rest.ensures ∙ counted-end c.loop-k.invariant (lane_sizes _ c.requires.0).0 (omega arith)
