use Prim.Native.Nat.{◌*◌}
use Rattle.painting.proofs.Steps.{InChunks}
use Rattle.linear_paint.specs.forms.Samples.{plain_sample, lane_chunk}
use Rattle.linear_paint.proofs.LinearPaint.paint_simd.Given as goal

abbrev pub invariant-loop-k : goal.invariant-loop-k
invariant-loop-k l = InChunks l.l (lane_chunk l.self) (plain_sample l.self) l.src (l.k * l.l) l.out
