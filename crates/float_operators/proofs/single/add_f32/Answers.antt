-- `+` on f32 is the sum of the definition. Assumes nothing.
use lib.Ieee.{binary32}
use Rattle.floats.proofs.OperationsLaw.{add_meets}
use Rattle.float_operators.proofs.single.add_f32.Goals as goal

pub returns : goal.returns
returns c = add_meets binary32 c.args.x c.args.y
