-- `-` on f32 is the difference of the definition. Assumes nothing.
use lib.Ieee.{binary32}
use Rattle.floats.proofs.OperationsLaw.{sub_meets}
use Rattle.float_operators.proofs.single.subtract_f32.Goals as goal

pub returns : goal.returns
returns c = sub_meets binary32 c.args.x c.args.y
