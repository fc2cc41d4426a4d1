-- A float truncated toward zero to an i64 (docs/RULES.md, "Categoric"): none below -2^63, or from 2^63 up, or not a number.
-- Definitions only.
use Rattle.std.specs.Prelude.{Option, Some, None, ℕ, ◌*◌, ◌/◌, ◌^◌, Bool, true, false, cond, ℤ, pos, neg_ℤ, leb, ltb, Float}
use Rattle.std.specs.Float.{nan, inf, fin}
use Rattle.std.specs.Float.Ieee.{up, down}

-- the whole number of size n, negative where the sign is true
abbrev pub signed : Bool → ℕ → ℤ
signed true n = neg_ℤ (pos n)
signed false n = pos n

-- the fraction a / c with this sign is not below -2^63, and is below 2^63
abbrev pub fraction_in_i64 : Bool → ℕ → ℕ → Bool
fraction_in_i64 true a c = leb a (2 ^ 63 * c)
fraction_in_i64 false a c = ltb a (2 ^ 63 * c)

-- that fraction, truncated toward zero
abbrev pub truncated_fraction : Bool → ℕ → ℕ → Option ℤ
truncated_fraction s a c = cond (fraction_in_i64 s a c) (Some (signed s (a / c))) None

-- `fin s m e` is m * 2 ^ e in size, which is the fraction m * up e / down e
unfoldable pub truncated : Float → Option ℤ
truncated nan = None
truncated (inf s) = None
truncated (fin s m e) = truncated_fraction s (m * up e) (down e)
