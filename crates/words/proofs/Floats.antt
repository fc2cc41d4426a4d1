-- The bits of a float: those of the NaN, and that others are a number's. Assumes nothing.
use mathlib.Core.Bool.{Bool, not, true, true≢false}
use mathlib.Core.Path.{◌≡◌, refl, sym, subst, ◌∙◌}
use Prim.Native.Nat.{ℕ, ◌%◌, ◌<◌, ◌≤◌}
use borrow.Author.Tests.{lt-ltb, le-ltb}
use lib.Dec.{T}
use lib.Ieee.{Float, nan, inf, fin, binary32, is_nan, of_bits, to_bits, nan_bits}
use lib.Ieee.Bits.{nan_bits_above}
use Rattle.words.specs.Values.{float_of, bits_of}

no_number : of_bits binary32 2143289344 ≡ nan
unfolding of_bits
no_number = refl

-- above the bits of infinity is a NaN, and up to them a number
pub nan_above : (w : ℕ) → 2139095040 < w % 2147483648 → of_bits binary32 2143289344 ≡ float_of w
unfolding float_of
nan_above w above = no_number ∙ simp (lt-ltb _ _ above)

pub number_below : (w : ℕ) → w % 2147483648 ≤ 2139095040 → T (not (nan_bits binary32 w))
number_below w below = subst (λ (b : Bool). T (not b)) (sym (nan_bits_above binary32 w ∙ le-ltb _ _ below)) tt

bits_of_nan : ◌≡◌ {A = ℕ} 2143289344 (to_bits binary32 nan)
unfolding to_bits
bits_of_nan = refl

pub nan_bits_lem : (x : Float) → is_nan x ≡ true → ◌≡◌ {A = ℕ} 2143289344 (bits_of x)
unfolding bits_of is_nan
nan_bits_lem nan h = bits_of_nan
nan_bits_lem (inf s) h = absurd (true≢false (sym h))
nan_bits_lem (fin s m e) h = absurd (true≢false (sym h))
