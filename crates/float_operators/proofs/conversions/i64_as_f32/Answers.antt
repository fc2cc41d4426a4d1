-- An i64 `as f32` is the conversion of the definition. Assumes nothing.
use lib.Ieee.{binary32}
use mir.Syntax.{w64}
use Rattle.float_operators.proofs.Casts.{signed_meets, signed_defined}
use Rattle.float_operators.proofs.conversions.i64_as_f32.Goals as goal

pub int_to_float-result : goal.int_to_float-result
int_to_float-result c = signed_defined binary32 w64 c.args.key c.ranges.key c.requires

pub returns : goal.returns
returns c = signed_meets binary32 w64 c.args.key c.ranges.key
