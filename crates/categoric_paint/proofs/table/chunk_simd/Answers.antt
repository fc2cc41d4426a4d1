-- `chunk_simd` meets its contract: the chunk is loaded, given its words and stored. Assumes nothing.
use mathlib.Core.Path.{refl}
use native.Mathlib.Omega.{arith}
use Rattle.painting.proofs.LaneChunk.{masked_laid}
use Rattle.categoric_table.specs.Rule.{table_color}
use Rattle.categoric_paint.proofs.table.chunk_simd.Goals as goal

pub returns : goal.returns
returns g c =
    masked_laid _ _ _ _ _ _ refl (omega arith) (omega arith) c.load-v.ensures c.store.ensures _ _ (table_color _ _ _) c.words_simd.ensures
