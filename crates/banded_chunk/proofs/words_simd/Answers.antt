-- `words_simd` meets its contract. Assumes nothing.
use borrow.Author.Rules.{rules}
use native.Mathlib.Omega.{arith}
use Rattle.banded_chunk.proofs.MaskedWords.{lane-words}
use Rattle.banded_chunk.proofs.words_simd.Goals as goal

pub returns : goal.returns
returns g c = lane-words g.row.L _ c.args.p c.args.v (search rules) (omega arith) c.masked_simd.ensures c.apply_lane_edges-c.ensures
