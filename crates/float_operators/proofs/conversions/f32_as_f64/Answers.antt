-- An f32 `as f64` is the conversion of the definition. Assumes nothing.
use Rattle.floats.proofs.ConversionsLaw.{widen_meets}
use Rattle.float_operators.proofs.conversions.f32_as_f64.Goals as goal

pub returns : goal.returns
returns c = widen_meets c.args.narrow c.row_known-1.given
