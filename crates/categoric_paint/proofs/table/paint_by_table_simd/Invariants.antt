use Prim.Native.Nat.{◌*◌}
use Rattle.painting.proofs.Steps.{InChunks}
use Rattle.categoric_paint.specs.forms.TableSamples.{table_sample, table_chunk}
use Rattle.categoric_paint.proofs.table.paint_by_table_simd.Given as goal

abbrev pub invariant-loop-k : goal.invariant-loop-k
invariant-loop-k l =
    InChunks l.l (table_chunk l.table.lookup.now l.table.size l.p) (table_sample l.table.lookup.now l.table.size l.p) l.src (l.l * l.k) l.out
