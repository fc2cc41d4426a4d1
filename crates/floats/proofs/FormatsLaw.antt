-- The language's f32 and f64 are the formats binary32 and binary64 of table 3.5, and what proofs use of a format. Assumes nothing.
use mathlib.Core.Path.{◌≡◌, refl}
use Prim.Native.Nat.{◌≤◌}
use lib.Dec.{lit≤}
use lib.Ieee as ieee
use lib.Ieee.{Format, emax}
use Rattle.floats.specs.Formats.{binary32, binary64, parameters}

pub f32-is : parameters ieee.binary32 ≡ binary32
f32-is = refl

pub f64_is : parameters ieee.binary64 ≡ binary64
f64_is = refl

-- beside lib.Ieee.Fits.two, which says that p is 2 at least
pub emax-two : (f : Format) → 2 ≤ emax f
emax-two ieee.binary32 = lit≤ tt
emax-two ieee.binary64 = lit≤ tt
