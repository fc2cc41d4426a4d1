-- `>=` on f32 is the comparison of the definition. Assumes nothing.
use lib.Ieee.{le}
use Rattle.floats.proofs.ComparisonLaw.{le_meets}
use Rattle.float_operators.proofs.Tests.{test_is}
use Rattle.float_operators.proofs.single.at_least_f32.Goals as goal

pub returns : goal.returns
returns c = test_is (le c.args.y c.args.x) (le_meets c.args.y c.args.x)
