-- `LinearPaint::chunk_simd` meets its contract. Assumes nothing.
use mathlib.Core.Path.{refl}
use native.Mathlib.Omega.{arith}
use Rattle.painting.proofs.LaneChunk.{masked_laid}
use Rattle.linear_rule.specs.forms.LinearRules.{lane_color_by}
use Rattle.linear_paint.proofs.LinearPaint.chunk_simd.Goals as goal

pub returns : goal.returns
returns g c =
    masked_laid _ _ _ _ _ _ refl (omega arith) (omega arith) c.load-v.ensures c.store.ensures _ _ (lane_color_by c.args.self.rule) c.words_simd.ensures
