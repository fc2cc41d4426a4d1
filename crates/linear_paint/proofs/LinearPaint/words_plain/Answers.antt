-- `LinearPaint::words_plain` meets its contract. Assumes nothing.
use Rattle.linear_paint.proofs.Words.{plain-masked}
use Rattle.linear_paint.proofs.LinearPaint.words_plain.Goals as goal

pub returns : goal.returns
returns c = plain-masked c.args.self c.args.v c.masked_simd.ensures c.colors_for_numeric_values-c.ensures
