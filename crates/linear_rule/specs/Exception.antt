-- The one case in which a lane's colour is another than the plain one, where the start is not above the end. Definitions only.
use Rattle.std.specs.Prelude.{◌≡◌, Float}
use Rattle.std.specs.Float.{binary32}
use Rattle.std.specs.Float.Ieee.{to_bits}
use Rattle.interpolate.specs.Fraction.{fraction}

-- the sample's fraction is the f32 with the bits 3B008080: the lane takes ramp entry 1, and plainly it is entry 0
abbrev pub ExceptionFraction : (start end v : Float) → Type 0
ExceptionFraction start end v = to_bits binary32 (fraction start end v) ≡ 0x3B00_8080
