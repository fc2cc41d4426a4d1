-- `/` on f32 is the quotient of the definition. Assumes nothing.
use lib.Ieee.{binary32}
use Rattle.floats.proofs.OperationsLaw.{div_meets}
use Rattle.float_operators.proofs.single.divide_f32.Goals as goal

pub returns : goal.returns
returns c = div_meets binary32 c.args.x c.args.y
