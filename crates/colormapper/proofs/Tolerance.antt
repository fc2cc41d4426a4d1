-- E is 1/10,000, rounded to f32 (IEEE 754-2019, 4.3.1, as floats/specs/Rounding.antt has it). Assumes nothing.
use mathlib.Core.Path.{◌≡◌, refl}
use native.Mathlib.Nat.{zero-lt-suc}
use mathlib.Core.Bool.{false}
use lib.Ieee as ieee
use lib.Ieee.{round, of_bits}
use Rattle.floats.specs.Formats.{binary32}
use Rattle.floats.specs.Rounding.{Rounds}
use Rattle.floats.proofs.RoundingLaw.{rounds_by}
use Rattle.colormapper.specs.Tolerance.{E}

computed : E ≡ round ieee.binary32 false 1 10_000
unfolding round of_bits
computed = refl

pub tolerance_rounded : Rounds binary32 false 1 10_000 E
tolerance_rounded = rounds_by ieee.binary32 (zero-lt-suc 9_999) computed
