-- The numbers of examples as f32, as a reader writes them. Definitions only.
use Rattle.std.specs.Prelude.{ℕ, pos, Float}
use Rattle.std.specs.Float.{binary32}
use Rattle.std.specs.Float.Ieee.{div, of_int}

-- a whole number, up to 2^24
abbrev pub integer : ℕ → Float
integer n = of_int binary32 (pos n)

-- the f32 nearest to n / d, for n and d up to 2^24: `decimal 59 10` is 5.9
abbrev pub decimal : (n d : ℕ) → Float
decimal n d = div binary32 (integer n) (integer d)
