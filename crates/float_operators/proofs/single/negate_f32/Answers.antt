-- `-` before an f32 is the negation of the definition. Assumes nothing.
use Rattle.floats.proofs.OperationsLaw.{neg_meets}
use Rattle.float_operators.proofs.single.negate_f32.Goals as goal

pub returns : goal.returns
returns c = neg_meets c.args.x
