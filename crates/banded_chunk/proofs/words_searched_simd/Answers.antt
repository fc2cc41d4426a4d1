-- `words_searched_simd` meets its contract: what stands at the lanes' indices is the scan. Assumes nothing.
use borrow.Author.Rules.{rules}
use native.Mathlib.Omega.{arith}
use Rattle.banded_search.proofs.ScanByIndices.{scan_at_indices}
use Rattle.banded_chunk.proofs.MaskedWords.{lane-words}
use Rattle.banded_chunk.proofs.words_searched_simd.Goals as goal

pub apply_lane_edges-c-requires : goal.apply_lane_edges-c-requires
apply_lane_edges-c-requires g c =
    let b = c.args.columns in (
      omega arith,
      scan_at_indices b.starts.now b.ends.now b.colors.now b.count _ g.row.L _ c.requires.0.some c.requires.0.ordered (omega arith) (omega arith)
          (search rules) (grind arith) c.colors_at.ensures (grind arith),
    )

pub returns : goal.returns
returns g c = lane-words g.row.L _ c.args.p c.args.v (search rules) (omega arith) c.masked_simd.ensures c.apply_lane_edges-c.ensures
