-- `<=` on f32 is the comparison of the definition. Assumes nothing.
use lib.Ieee.{le}
use Rattle.floats.proofs.ComparisonLaw.{le_meets}
use Rattle.float_operators.proofs.Tests.{test_is}
use Rattle.float_operators.proofs.single.at_most_f32.Goals as goal

pub returns : goal.returns
returns c = test_is (le c.args.x c.args.y) (le_meets c.args.x c.args.y)
