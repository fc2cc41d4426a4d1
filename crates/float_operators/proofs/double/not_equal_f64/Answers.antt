-- `!=` on f64 is the comparison of the definition. Assumes nothing.
use lib.Ieee.{ne}
use Rattle.floats.proofs.ComparisonLaw.{ne_meets}
use Rattle.float_operators.proofs.Tests.{test_is}
use Rattle.float_operators.proofs.double.not_equal_f64.Goals as goal

pub returns : goal.returns
returns c = test_is (ne c.args.x c.args.y) (ne_meets c.args.x c.args.y)
