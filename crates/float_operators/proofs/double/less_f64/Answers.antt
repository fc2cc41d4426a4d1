-- `<` on f64 is the comparison of the definition. Assumes nothing.
use lib.Ieee.{lt}
use Rattle.floats.proofs.ComparisonLaw.{lt_meets}
use Rattle.float_operators.proofs.Tests.{test_is}
use Rattle.float_operators.proofs.double.less_f64.Goals as goal

pub returns : goal.returns
returns c = test_is (lt c.args.x c.args.y) (lt_meets c.args.x c.args.y)
