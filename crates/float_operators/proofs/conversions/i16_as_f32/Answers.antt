-- An i16 `as f32` is the conversion of the definition. Assumes nothing.
use lib.Ieee.{binary32}
use mir.Syntax.{w16}
use Rattle.float_operators.proofs.Casts.{signed_meets}
use Rattle.float_operators.proofs.conversions.i16_as_f32.Goals as goal

pub returns : goal.returns
returns c = signed_meets binary32 w16 c.args.sample c.ranges.sample
