-- `*` on f32 is the product of the definition. Assumes nothing.
use lib.Ieee.{binary32}
use Rattle.floats.proofs.OperationsLaw.{mul_meets}
use Rattle.float_operators.proofs.single.multiply_f32.Goals as goal

pub returns : goal.returns
returns c = mul_meets binary32 c.args.x c.args.y
