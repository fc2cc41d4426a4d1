-- `/` on f64 is the quotient of the definition. Assumes nothing.
use lib.Ieee.{binary64}
use Rattle.floats.proofs.OperationsLaw.{div_meets}
use Rattle.float_operators.proofs.double.divide_f64.Goals as goal

pub returns : goal.returns
returns c = div_meets binary64 c.args.x c.args.y
