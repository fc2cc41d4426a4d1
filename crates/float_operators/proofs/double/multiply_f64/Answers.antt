-- `*` on f64 is the product of the definition. Assumes nothing.
use lib.Ieee.{binary64}
use Rattle.floats.proofs.OperationsLaw.{mul_meets}
use Rattle.float_operators.proofs.double.multiply_f64.Goals as goal

pub returns : goal.returns
returns c = mul_meets binary64 c.args.x c.args.y
