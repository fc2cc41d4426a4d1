-- `-` on f64 is the difference of the definition. Assumes nothing.
use lib.Ieee.{binary64}
use Rattle.floats.proofs.OperationsLaw.{sub_meets}
use Rattle.float_operators.proofs.double.subtract_f64.Goals as goal

pub returns : goal.returns
returns c = sub_meets binary64 c.args.x c.args.y
