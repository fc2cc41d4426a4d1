-- A usize `as f32` is the conversion of the definition. Assumes nothing.
use lib.IntN.{pos}
use lib.Ieee.{binary32}
use Rattle.floats.proofs.ConversionsLaw.{of_int_meets, of_int_defined}
use Rattle.float_operators.proofs.conversions.usize_as_f32.Goals as goal

pub int_to_float-result : goal.int_to_float-result
int_to_float-result c = of_int_defined binary32 (pos c.args.count) c.requires

pub returns : goal.returns
returns c = of_int_meets binary32 (pos c.args.count)
