-- The language's conversions meet the definitions of `Conversions`, leave one result only, and where its casts are defined they are exact. Assumes nothing.
use mathlib.Core.Path.{◌≡◌, refl, sym, ◌∙◌}
use Prim.Native.Nat.{ℕ, suc, ◌+◌, ◌*◌, ◌^◌, ◌≤◌}
use native.Mathlib.Nat.{lt_of_lt_of_le, zero-lt-suc, mul_assoc}
use native.Mathlib.Omega.{arith}
use mathlib.Core.Bool.{true, false, not}
use lib.IntN.{ℤ, pos, negsuc, nat_abs}
use lib.Signed.{non_neg}
use lib.Dec.{T, le→leb, lt→ltb, lit≤}
use lib.Pow.{pow-add}
use lib.Ieee as ieee
use lib.Ieee.{Float, nan, inf, fin, Format, prec, up, down, fits, of_int, in_float}
use lib.Ieee.Exact.{HasValue}
use lib.Ieee.Fits.{down_pos, fits_widens, of_int-fits}
use lib.Ieee.Back.{round_whole}
use Rattle.floats.specs.Formats.{binary32, binary64, parameters}
use Rattle.floats.specs.Rounding.{Datum}
use Rattle.floats.specs.Conversions.{Converts, FromInt}
use Rattle.floats.proofs.RoundingLaw.{round_meets, rounds_by}
use Rattle.floats.proofs.Representable.{round_own}
use Rattle.floats.proofs.Unique.{rounds_unique}

-- ---- between formats: the language has one type of values, and a cast of a value that the target format holds gives that value
pub holds_converts : (f : Format) (x : Float) → T (fits f x) → Converts (parameters f) x x
holds_converts f nan t = refl
holds_converts f (inf s) t = refl
holds_converts f (fin s m e) t = rounds_by f (down_pos e) (sym (round_own f s m e t))

pub converts_unique : (f : Format) (x r r' : Float) → T (fits f r) → T (fits f r') → Converts (parameters f) x r → Converts (parameters f) x r' → r ≡ r'
converts_unique f nan r r' i j h k = h ∙ sym k
converts_unique f (inf s) r r' i j h k = h ∙ sym k
converts_unique f (fin s m e) r r' i j h k = rounds_unique f s (m * up e) (down e) r r' (down_pos e) i j h k

-- 5.4.2: from binary32 to binary64 the conversion is exact. Every datum of binary32 is one of binary64, whose unit is 2 ^ 925 times finer
pub datum_widens : (n : ℕ) → Datum binary32 n → Datum binary64 (n * 2 ^ 925)
datum_widens n d =
    record {
      digits = d.digits;
      power = d.power + 925;
      short = lt_of_lt_of_le d.short (lit≤ tt);
      low = fewer d.power d.low;
      is = rw (d.is, pow-add 2 d.power 925) (mul_assoc d.digits (2 ^ d.power) (2 ^ 925));
    }
  where
    fewer : (k : ℕ) → k ≤ 253 → k + 925 ≤ 2045
    fewer k h = omega arith

pub widen_meets : (x : Float) → T (fits ieee.binary32 x) → Converts binary64 x x
widen_meets x t = holds_converts ieee.binary64 x (fits_widens x t)

pub widen_only : (x r : Float) → T (fits ieee.binary32 x) → T (fits ieee.binary64 r) → Converts binary64 x r → r ≡ x
widen_only x r t i h = converts_unique ieee.binary64 x r x i (fits_widens x t) h (widen_meets x t)

-- ---- whole numbers
pub of_int_meets : (f : Format) (z : ℤ) → FromInt (parameters f) z (of_int f z)
unfolding of_int
of_int_meets f (pos n) = round_meets f false n 1 (zero-lt-suc 0)
of_int_meets f (negsuc n) = round_meets f true (suc n) 1 (zero-lt-suc 0)

pub from_int_unique : (f : Format) (z : ℤ) (r r' : Float) → T (fits f r) → T (fits f r') → FromInt (parameters f) z r → FromInt (parameters f) z r' → r ≡ r'
from_int_unique f (pos n) r r' i j h k = rounds_unique f false n 1 r r' (zero-lt-suc 0) i j h k
from_int_unique f (negsuc n) r r' i j h k = rounds_unique f true (suc n) 1 r r' (zero-lt-suc 0) i j h k

pub from_int_only : (f : Format) (z : ℤ) (r : Float) → T (fits f r) → FromInt (parameters f) z r → r ≡ of_int f z
from_int_only f z r i h = from_int_unique f z r (of_int f z) i (of_int-fits f z) h (of_int_meets f z)

-- up to 2 ^ p in size, 2 ^ 24 for f32, the conversion is exact
pub of_int_exact : (f : Format) (z : ℤ) → nat_abs z ≤ 2 ^ prec f → HasValue (of_int f z) (not (non_neg z)) (nat_abs z) 1
unfolding of_int
of_int_exact f (pos n) h = round_whole f false n h
of_int_exact f (negsuc n) h = round_whole f true (suc n) h

-- and there the language has the cast
pub of_int_defined : (f : Format) (z : ℤ) → nat_abs z ≤ 2 ^ prec f → T (in_float f z)
unfolding in_float
of_int_defined f (pos n) h = le→leb n (2 ^ prec f) h
of_int_defined f (negsuc n) h = lt→ltb n (2 ^ prec f) h
