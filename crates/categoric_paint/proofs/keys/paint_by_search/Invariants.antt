use Prim.Native.Nat.{◌*◌}
use mathlib.Core.List.{map}
use Rattle.painting.proofs.Steps.{InChunks}
use Rattle.categoric_paint.specs.forms.KeySamples.{search_sample}
use Rattle.categoric_paint.proofs.keys.paint_by_search.Given as goal

abbrev pub invariant-loop-k : goal.invariant-loop-k
invariant-loop-k l = InChunks 16 (map (search_sample l.narrow l.colors l.p)) (search_sample l.narrow l.colors l.p) l.src (16 * l.k) l.out
