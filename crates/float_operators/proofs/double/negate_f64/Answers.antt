-- `-` before an f64 is the negation of the definition. Assumes nothing.
use Rattle.floats.proofs.OperationsLaw.{neg_meets}
use Rattle.float_operators.proofs.double.negate_f64.Goals as goal

pub returns : goal.returns
returns c = neg_meets c.args.x
