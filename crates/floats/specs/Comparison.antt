-- The comparisons of two floats of any format, written from IEEE 754-2019, 5.11 and tables 5.1 to 5.3: by the exact values, an infinity beyond every
-- finite one (6.1), -0 equal to +0, infinities of one sign equal. Where a NaN stands the operands are unordered: then `Differs` is true, and the others
-- are false. Definitions only.
use Rattle.std.specs.Prelude.{◌≡◌, ◌⊎◌, ◌+◌, ◌*◌, ◌<◌, true, false, Float}
use Rattle.std.specs.Float.{nan, inf, fin}
use Rattle.std.specs.Float.Ieee.{up, down}
use Rattle.floats.specs.Signed.{positive, negative}

-- x < y
abbrev pub Less : Float → Float → Type 0
Less nan y = ⊥
Less (inf s) nan = ⊥
Less (inf true) (inf true) = ⊥
Less (inf true) (inf false) = Unit
Less (inf false) (inf t) = ⊥
Less (inf true) (fin t n d) = Unit
Less (inf false) (fin t n d) = ⊥
Less (fin s m e) nan = ⊥
Less (fin s m e) (inf true) = ⊥
Less (fin s m e) (inf false) = Unit
Less (fin s m e) (fin t n d) = positive s (m * up e * down d) + negative t (n * up d * down e) < positive t (n * up d * down e) + negative s (m * up e * down d)

-- x = y
abbrev pub Same : Float → Float → Type 0
Same nan y = ⊥
Same (inf s) nan = ⊥
Same (inf s) (inf t) = s ≡ t
Same (inf s) (fin t n d) = ⊥
Same (fin s m e) nan = ⊥
Same (fin s m e) (inf t) = ⊥
Same (fin s m e) (fin t n d) = positive s (m * up e * down d) + negative t (n * up d * down e) ≡ positive t (n * up d * down e) + negative s (m * up e * down d)

-- x ≤ y: less or equal
abbrev pub AtMost : Float → Float → Type 0
AtMost x y = Less x y ⊎ Same x y

-- 5.11: at least one operand is a NaN
abbrev pub Unordered : Float → Float → Type 0
Unordered x y = (x ≡ nan) ⊎ (y ≡ nan)

-- x ≠ y, table 5.1: compareQuietNotEqual is true of less, greater and unordered
abbrev pub Differs : Float → Float → Type 0
Differs x y = Less x y ⊎ Less y x ⊎ Unordered x y
