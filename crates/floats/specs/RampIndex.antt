-- The ramp's entry number for a fraction from 0 to 1 (docs/RULES.md, "Colours and ramps"): fraction × 255 in f32; plainly the nearest whole number to that,
-- halves up;
-- in lanes the floor of that plus 0.5, the sum rounded to f32, at most 255. Definitions only.
use Rattle.std.specs.Prelude.{ℕ, ◌+◌, ◌*◌, ◌/◌, min, Bool, true, false, ◌&&◌, pos, negsuc, Float}
use Rattle.std.specs.Float.{nan, inf, fin, binary32}
use Rattle.std.specs.Float.Ieee.{up, down, add, mul, le}

-- the largest whole number that is not above y, for a finite y from 0 on; a negative zero is zero
abbrev pub floor_of : Float → ℕ
floor_of nan = 0
floor_of (inf s) = 0
floor_of (fin true m e) = 0
floor_of (fin false m e) = m * up e / down e

-- the whole number nearest to y, a half going up: the floor of y + 1/2, worked out exactly
abbrev pub half_up : Float → ℕ
half_up nan = 0
half_up (inf s) = 0
half_up (fin true m e) = 0
half_up (fin false m e) = (m * up e * 2 + down e) / (down e * 2)

abbrev pub c255 : Float
c255 = fin false 255 (pos 0)

abbrev pub one_half : Float
one_half = fin false 1 (negsuc 0)

unfoldable pub plain_index : Float → ℕ
plain_index x = half_up (mul binary32 x c255)

unfoldable pub lane_index : Float → ℕ
lane_index x = min 255 (floor_of (add binary32 (mul binary32 x c255) one_half))

-- the fractions that have an entry: from 0 to 1, so no NaN
abbrev pub nought : Float
nought = fin false 0 (pos 0)

abbrev pub one : Float
one = fin false 1 (pos 0)

abbrev pub in_unit : Float → Bool
in_unit x = le nought x && le x one

-- the one fraction at which the two indexes differ: the f32 with the bits 3B008080, 65793 / 2 ^ 25
abbrev pub exception_fraction : Float
exception_fraction = fin false 65793 (negsuc 24)
