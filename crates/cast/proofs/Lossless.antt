-- A whole number of size up to 2^24 becomes an f32 without loss: the f32 has exactly its value, is cut to it again, and is no other
-- number's. So do all samples of u8 and i16. Assumes nothing.
use Rattle.std.specs.Prelude.{Some}
use mathlib.Core.Path.{◌≡◌, refl, ap, ◌∙◌}
use mathlib.Core.Bool.{true, false, not}
use Prim.Native.Nat.{ℕ, suc, ◌^◌, ◌≤◌}
use native.Mathlib.Nat.{le_trans, lt_of_le_of_lt, div-one}
use native.Mathlib.Omega.{arith}
use lib.IntN.{ℤ, pos, negsuc, nat_abs}
use lib.Signed.{non_neg, nat_abs-le}
use lib.Dec.{lit≤, lit<}
use lib.Ieee.{binary32, of_int}
use lib.Ieee.Exact.{HasValue}
use lib.Ieee.Back.{round_whole}
use mir.Syntax.{w8, w16}
use mir.Val.{Fits, SFits}
use Rattle.cast.specs.Samples.{of_u8, of_i16}
use Rattle.cast.specs.Truncated.{signed, truncated}
use Rattle.cast.proofs.Value.{at_value, inside}

-- ---- every whole number of size up to 2^24
pub exact : (z : ℤ) → nat_abs z ≤ 2 ^ 24 → HasValue (of_int binary32 z) (not (non_neg z)) (nat_abs z) 1
unfolding of_int
exact (pos n) h = round_whole binary32 false n h
exact (negsuc n) h = round_whole binary32 true (suc n) h

pub back : (z : ℤ) → nat_abs z ≤ 2 ^ 24 → truncated (of_int binary32 z) ≡ Some z
back z h =
    at_value (of_int binary32 z) (not (non_neg z)) (nat_abs z) 1 (lit< tt) (exact z h)
    ∙ inside (not (non_neg z)) (nat_abs z) 1 (lt_of_le_of_lt h (lit< tt))
    ∙ ap (λ (n : ℕ). Some (signed (not (non_neg z)) n)) (div-one (nat_abs z))
    ∙ ap Some (parts z)
  where
    parts : (z : ℤ) → signed (not (non_neg z)) (nat_abs z) ≡ z
    parts (pos n) = refl
    parts (negsuc n) = refl

pub one_to_one : (y z : ℤ) → nat_abs y ≤ 2 ^ 24 → nat_abs z ≤ 2 ^ 24 → of_int binary32 y ≡ of_int binary32 z → y ≡ z
one_to_one y z g h e = let p = back y g in let q = back z h in let r = ap truncated e in cc

-- ---- the samples
u8_size : (n : ℕ) → Fits w8 n → n ≤ 2 ^ 24
u8_size n h = omega arith

i16_size : (z : ℤ) → SFits w16 z → nat_abs z ≤ 2 ^ 24
i16_size z h = le_trans (nat_abs-le z h.sfits) (lit≤ tt)

pub u8-exact : (n : ℕ) → Fits w8 n → HasValue (of_u8 n) false n 1
u8-exact n h = exact (pos n) (u8_size n h)

pub i16-exact : (z : ℤ) → SFits w16 z → HasValue (of_i16 z) (not (non_neg z)) (nat_abs z) 1
i16-exact z h = exact z (i16_size z h)

pub u8_back : (n : ℕ) → Fits w8 n → truncated (of_u8 n) ≡ Some (pos n)
u8_back n h = back (pos n) (u8_size n h)

pub i16_back : (z : ℤ) → SFits w16 z → truncated (of_i16 z) ≡ Some z
i16_back z h = back z (i16_size z h)

pub u8-one_to_one : (m n : ℕ) → Fits w8 m → Fits w8 n → of_u8 m ≡ of_u8 n → m ≡ n
u8-one_to_one m n g h e = ap nat_abs (one_to_one (pos m) (pos n) (u8_size m g) (u8_size n h) e)

pub i16-one_to_one : (y z : ℤ) → SFits w16 y → SFits w16 z → of_i16 y ≡ of_i16 z → y ≡ z
i16-one_to_one y z g h e = one_to_one y z (i16_size y g) (i16_size z h) e
