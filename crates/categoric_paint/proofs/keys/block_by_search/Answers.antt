-- `block_by_search` meets its contract. Assumes nothing.
use mathlib.Core.Path.{refl}
use native.Mathlib.Omega.{arith}
use Rattle.painting.proofs.LaneChunk.{chunk_laid}
use Rattle.categoric_paint.proofs.keys.block_by_search.Goals as goal

pub returns : goal.returns
returns c =
    let s = c in
    let w = s.words_by_search in
    chunk_laid _ _ _ _ 16 w.result refl (omega arith) (omega arith) s.load-v.ensures c.store.ensures _ w.ensures
