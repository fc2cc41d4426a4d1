-- The f32 of a bit string is that of the definition. Assumes nothing.
use lib.Ieee.{binary32}
use Rattle.floats.proofs.EncodingsLaw.{of_bits_meets}
use Rattle.float_operators.proofs.conversions.f32_from_bits.Goals as goal

pub returns : goal.returns
returns c = of_bits_meets binary32 c.args.bits c.ranges.bits.fits
