-- `>` on f32 is the comparison of the definition. Assumes nothing.
use lib.Ieee.{lt}
use Rattle.floats.proofs.ComparisonLaw.{lt_meets}
use Rattle.float_operators.proofs.Tests.{test_is}
use Rattle.float_operators.proofs.single.greater_f32.Goals as goal

pub returns : goal.returns
returns c = test_is (lt c.args.y c.args.x) (lt_meets c.args.y c.args.x)
