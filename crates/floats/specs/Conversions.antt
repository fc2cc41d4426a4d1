-- Conversions to a binary format b, written from IEEE 754-2019. Definitions only.
use Rattle.std.specs.Prelude.{◌≡◌, suc, ◌*◌, true, false, ℤ, pos, negsuc, Float}
use Rattle.std.specs.Float.{nan, inf, fin}
use Rattle.std.specs.Float.Ieee.{up, down}
use Rattle.floats.specs.Formats.{Binary}
use Rattle.floats.specs.Rounding.{Rounds}

-- 5.4.2 convertFormat: r is x, rounded to b. 6.1, 6.2: an infinity stays that infinity, and a NaN a NaN
abbrev pub Converts : Binary → Float → Float → Type 0
Converts b nan r = r ≡ nan
Converts b (inf s) r = r ≡ inf s
Converts b (fin s m e) r = Rounds b s (m * up e) (down e) r

-- 5.4.1 convertFromInt: r is the whole number, rounded to b; a zero that has no sign is +0. `negsuc n` is -(n + 1)
abbrev pub FromInt : Binary → ℤ → Float → Type 0
FromInt b (pos n) r = Rounds b false n 1 r
FromInt b (negsuc n) r = Rounds b true (suc n) 1 r
