use Prim.Native.Nat.{◌*◌}
use mathlib.Core.List.{map}
use Rattle.painting.proofs.Steps.{InChunks}
use Rattle.categoric_paint.specs.forms.TableSamples.{table_sample}
use Rattle.categoric_paint.proofs.table.paint_by_table.Given as goal

abbrev pub invariant-loop-k : goal.invariant-loop-k
invariant-loop-k l =
    InChunks 16 (map (table_sample l.table.lookup.now l.table.size l.p)) (table_sample l.table.lookup.now l.table.size l.p) l.src (16 * l.k) l.out
