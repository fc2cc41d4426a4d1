use Prim.Native.Nat.{◌*◌}
use mathlib.Core.List.{map}
use Rattle.painting.proofs.Steps.{InChunks}
use Rattle.banded_rule.specs.forms.Columns.{bands_of}
use Rattle.banded_chunk.specs.forms.Samples.{plain_sample}
use Rattle.banded_paint.proofs.paint.Given as goal

abbrev pub invariant-loop-k : goal.invariant-loop-k
invariant-loop-k l =
    let sample = plain_sample (bands_of l.columns) l.p in
    InChunks 16 (map sample) sample l.src (16 * l.k) l.out
