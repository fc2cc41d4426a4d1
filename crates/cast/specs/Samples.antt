-- A sample as an f32 (docs/RULES.md, "Samples and settings"): the f32 nearest to the whole number. That this loses nothing is said in
-- proofs/Lossless.antt. Definitions only.
use Rattle.std.specs.Prelude.{ℕ, ℤ, pos, Float}
use Rattle.std.specs.Float.{binary32}
use Rattle.std.specs.Float.Ieee.{of_int}

abbrev pub of_u8 : ℕ → Float
of_u8 n = of_int binary32 (pos n)

abbrev pub of_i16 : ℤ → Float
of_i16 z = of_int binary32 z
