-- The bits of an f64 are those of the definition. Assumes nothing.
use mathlib.Core.Path.{sym, subst}
use lib.Dec.{T}
use lib.Ieee.{binary64}
use Rattle.floats.proofs.EncodingsLaw.{to_bits_meets}
use Rattle.float_operators.proofs.conversions.f64_to_bits.Goals as goal

pub returns : goal.returns
returns c = to_bits_meets binary64 c.args.x (subst T (sym c.well_formed.0.1) tt)
