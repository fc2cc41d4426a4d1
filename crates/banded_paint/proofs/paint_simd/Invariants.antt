use Prim.Native.Nat.{◌*◌}
use Rattle.painting.proofs.Steps.{InChunks}
use Rattle.banded_rule.specs.forms.Columns.{bands_of}
use Rattle.banded_chunk.specs.forms.Samples.{plain_sample, lane_chunk}
use Rattle.banded_paint.proofs.paint_simd.Given as goal

abbrev pub invariant-loop-k : goal.invariant-loop-k
invariant-loop-k l =
    let bands = bands_of l.columns in
    InChunks l.l (lane_chunk bands l.p) (plain_sample bands l.p) l.src (l.l * l.k) l.out
