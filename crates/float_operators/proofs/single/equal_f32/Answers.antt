-- `==` on f32 is the comparison of the definition. Assumes nothing.
use lib.Ieee.{eq}
use Rattle.floats.proofs.ComparisonLaw.{eq_meets}
use Rattle.float_operators.proofs.Tests.{test_is}
use Rattle.float_operators.proofs.single.equal_f32.Goals as goal

pub returns : goal.returns
returns c = test_is (eq c.args.x c.args.y) (eq_meets c.args.x c.args.y)
