use mathlib.Core.List.{map}
use Prim.Native.Nat.{◌*◌}
use Rattle.painting.proofs.Steps.{InChunks}
use Rattle.linear_paint.specs.forms.Samples.{plain_sample}
use Rattle.linear_paint.proofs.LinearPaint.paint.Given as goal

abbrev pub invariant-loop-k : goal.invariant-loop-k
invariant-loop-k l = InChunks 16 (map (plain_sample l.self)) (plain_sample l.self) l.src (l.k * 16) l.out
