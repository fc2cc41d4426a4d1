-- `+` on f64 is the sum of the definition. Assumes nothing.
use lib.Ieee.{binary64}
use Rattle.floats.proofs.OperationsLaw.{add_meets}
use Rattle.float_operators.proofs.double.add_f64.Goals as goal

pub returns : goal.returns
returns c = add_meets binary64 c.args.x c.args.y
