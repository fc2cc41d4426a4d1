-- `LinearPaint::words_simd` meets its contract. Assumes nothing.
use Rattle.linear_paint.proofs.Words.{lane-masked}
use Rattle.linear_paint.proofs.LinearPaint.words_simd.Goals as goal

pub returns : goal.returns
returns g c = lane-masked c.args.self c.args.v c.masked_simd.ensures c.color_for_numeric_value_simd-c.ensures
