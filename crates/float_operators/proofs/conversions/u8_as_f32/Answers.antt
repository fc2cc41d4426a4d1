-- A u8 `as f32` is the conversion of the definition. Assumes nothing.
use lib.IntN.{pos}
use lib.Ieee.{binary32}
use Rattle.floats.proofs.ConversionsLaw.{of_int_meets}
use Rattle.float_operators.proofs.conversions.u8_as_f32.Goals as goal

pub returns : goal.returns
returns c = of_int_meets binary32 (pos c.args.byte)
