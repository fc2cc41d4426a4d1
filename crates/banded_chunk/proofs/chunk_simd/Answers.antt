-- `chunk_simd` meets its contract: the chunk is loaded, given its words and stored. Assumes nothing.
use mathlib.Core.Path.{refl}
use native.Mathlib.Omega.{arith}
use Rattle.painting.proofs.LaneChunk.{words_laid}
use Rattle.banded_lanes.specs.LaneRule.{lane_colors}
use Rattle.banded_lanes.proofs.LaneLaw.{lane-length}
use Rattle.banded_chunk.proofs.chunk_simd.Goals as goal

pub returns : goal.returns
returns g c =
    words_laid _ _ _ _ g.row.L _ refl (omega arith) (omega arith) c.load-v.ensures c.store.ensures
    _ _ (lane_colors _ _) (lane-length _ _) c.words_simd-words.ensures
