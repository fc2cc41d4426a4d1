-- `truncated` at an f32 from its bit pattern: what the code reads off the pattern, what the pattern stands for, and the ranges of the
-- exponent's field that `to_i64` tells apart. Assumes nothing.
use Rattle.std.specs.Prelude.{Some, None}
use mathlib.Core.Path.{◌≡◌, refl, sym, ap, ◌∙◌, subst}
use mathlib.Core.Logic.{inl, inr}
use mathlib.Core.Bool.{Bool, true, false, cond}
use Prim.Native.Nat.{ℕ, zero, suc, ◌+◌, ◌-◌, ◌*◌, ◌/◌, ◌%◌, ◌^◌, ◌≤◌, ◌<◌}
use native.Mathlib.Nat.{le_of_lt, le_of_eq, le_trans, lt_of_lt_of_le, lt_of_le_of_lt, mul_assoc, mod-lt, div-lt_iff_lt-mul, mul-le-mul_right, le-add_right}
use native.Mathlib.Nat.{not-le_of_lt, eq-or-lt_of_le, mul-lt-mul_of_pos_right}
use native.Mathlib.Omega.{arith}
use lib.IntN.{ℤ, pos, negsuc, neg_ℤ, ◌-ℤ◌, +ℤ_idl}
use mir.Syntax.{w64}
use mir.Val.{SFits, to_z}
use mir.ValLaws.{to_z_pos}
use lib.Dec.{T, leb, eqb, leb→le, eqb→eq, not_T, lit≤, lit<}
use lib.Pow.{pow-add, pow_pos, pow_mono, shl_lt, shl-shr, shr-shr, shl_exact}
use lib.Pow as Pow
use lib.Bits.{bit_and, bit_or, and_mask, or_shifted_r}
use lib.Ieee.{Float, nan, inf, binary32, odd, of_fields, of_bits, to_bits, fits}
use lib.Ieee.Bits.{cond_no, of_bits-to_bits, to_bits-lt}
use lib.Ieee.Exact.{HasValue, odd_sign}
use Rattle.cast.specs.Truncated.{signed, truncated_fraction, truncated}
use Rattle.cast.specs.forms.Pattern.{field, whole_part}
use Rattle.cast.proofs.Value.{at_value, nothing, inside, outside}

-- ---- what the code reads
pub field_is : (b : ℕ) → bit_and (b / 2 ^ 23) 255 ≡ field b
field_is b = and_mask (b / 2 ^ 23) 8

abbrev pub digits : ℕ → ℕ
digits b = 2 ^ 23 + b % 2 ^ 23

pub digits_are : (b : ℕ) → bit_or (bit_and b (2 ^ 23 - 1)) (2 ^ 23) ≡ digits b
digits_are b = ap (λ (k : ℕ). bit_or k (2 ^ 23)) (and_mask b 23) ∙ or_shifted_r 1 23 (b % 2 ^ 23) (mod-lt b (pow_pos 23))

pub digits_lt : (b : ℕ) → digits b < 2 ^ 24
digits_lt b = omega arith

-- ---- the shifts
shifted_down : (q F : ℕ) → 1 ≤ F → F ≤ 150 → q / 2 ^ (150 - F) ≡ q * 2 ^ (F - 1) / 2 ^ 149
shifted_down q F h k =
    ap (λ (n : ℕ). n / 2 ^ (150 - F)) (sym (shl-shr q (F - 1))) ∙ shr-shr (q * 2 ^ (F - 1)) (F - 1) (150 - F) ∙ ap (λ (n : ℕ). q * 2 ^ (F - 1) / 2 ^ n)
    (join F h k)
  where
    join : (F : ℕ) → 1 ≤ F → F ≤ 150 → F - 1 + (150 - F) ≡ 149
    join F h k = omega arith

shifted_up : (q F : ℕ) → 150 ≤ F → q * 2 ^ (F - 150) ≡ q * 2 ^ (F - 1) / 2 ^ 149
shifted_up q F h =
    sym (ap (λ (k : ℕ). k / 2 ^ 149) (ap (λ (k : ℕ). q * 2 ^ k) (join F h) ∙ ap (λ (k : ℕ). q * k) (pow-add 2 (F - 150) 149)
    ∙ sym (mul_assoc q (2 ^ (F - 150)) (2 ^ 149))) ∙ shl-shr (q * 2 ^ (F - 150)) 149)
  where
    join : (F : ℕ) → 150 ≤ F → F - 1 ≡ F - 150 + 149
    join F h = omega arith

-- below 2 ^ 63
size_lt : (b : ℕ) → field b < 190 → digits b * 2 ^ (field b - 1) < 2 ^ 63 * 2 ^ 149
size_lt b h = lt_of_lt_of_le (shl_lt 24 (field b - 1) (digits_lt b)) (le_trans (pow_mono (room (field b) h)) (lit≤ tt))
  where
    room : (F : ℕ) → F < 190 → 24 + (F - 1) ≤ 212
    room F h = omega arith

pub whole_lt : (b : ℕ) → field b < 190 → whole_part b < 2 ^ 63
whole_lt b h = (div-lt_iff_lt-mul (pow_pos 149)).1 (size_lt b h)

pub down_is : (b : ℕ) → 127 ≤ field b → field b ≤ 150 → bit_or (bit_and b (2 ^ 23 - 1)) (2 ^ 23) / 2 ^ (150 - bit_and (b / 2 ^ 23) 255) ≡ whole_part b
down_is b h k = rw (digits_are b, field_is b) (shifted_down (digits b) (field b) (some (field b) h) k)
  where
    some : (F : ℕ) → 127 ≤ F → 1 ≤ F
    some F h = omega arith

pub up_is : (b : ℕ) → 150 ≤ field b → field b < 190 → bit_or (bit_and b (2 ^ 23 - 1)) (2 ^ 23) * 2 ^ (bit_and (b / 2 ^ 23) 255 - 150) % 2 ^ 64 ≡ whole_part b
up_is b h k = rw (digits_are b, field_is b) (shl_exact 24 (field b - 150) 64 (digits_lt b) (room (field b) k) ∙ shifted_up (digits b) (field b) h)
  where
    room : (F : ℕ) → F < 190 → 24 + (F - 150) ≤ 64
    room F h = omega arith

-- ---- what a pattern stands for
of_bits_is : (b : ℕ) → of_bits binary32 b ≡ of_fields binary32 (leb (2 ^ 31) b) (b % 2 ^ 31 / 2 ^ 23) (b % 2 ^ 23)
unfolding of_bits
of_bits_is b = refl

-- the digits with the leading one that a field above 0 has
abbrev mant : ℕ → ℕ → ℕ
mant zero t = t
mant (suc x) t = 2 ^ 23 + t

read : (s : Bool) (F t : ℕ) → F < 255 → HasValue (of_fields binary32 s F t) s (mant F t * 2 ^ (F - 1)) (2 ^ 149)
unfolding of_fields
read s zero t h = odd_sign 24 s t 0 149
read s (suc x) t h =
    subst (λ (v : Float). HasValue v s ((2 ^ 23 + t) * 2 ^ (suc x - 1)) (2 ^ 149))
    (sym (cond_no (eqb (suc x) 255) (cond (eqb t 0) (inf s) nan) (odd 24 s (2 ^ 23 + t) x 149)
    (not_T (eqb (suc x) 255) (λ (u : T (eqb (suc x) 255)). differ (suc x) h (eqb→eq (suc x) 255 u)))))
    (subst (λ (k : ℕ). HasValue (odd 24 s (2 ^ 23 + t) x 149) s ((2 ^ 23 + t) * 2 ^ k) (2 ^ 149)) (back x) (odd_sign 24 s (2 ^ 23 + t) x 149))
  where
    differ : (x : ℕ) → x < 255 → x ≡ 255 → ⊥
    differ x h e = omega arith

    back : (x : ℕ) → x ≡ suc x - 1
    back x = omega arith

top : (s : Bool) (F t : ℕ) → F ≡ 255 → truncated (of_fields binary32 s F t) ≡ None
unfolding truncated
top s F t h = ap (λ (k : ℕ). truncated (of_fields binary32 s k t)) h ∙ at_255 s t
  where
    at_255 : (s : Bool) (t : ℕ) → truncated (of_fields binary32 s 255 t) ≡ None
    at_255 s t = unfold of_fields in go (eqb t 0)
      where
        go : (b : Bool) → truncated (cond b (inf s) nan) ≡ None
        go true = refl
        go false = refl

fields_of_lem : (b : ℕ) → of_bits binary32 b ≡ of_fields binary32 (leb (2 ^ 31) b) (field b) (b % 2 ^ 23)
fields_of_lem b = of_bits_is b ∙ ap (λ (k : ℕ). of_fields binary32 (leb (2 ^ 31) b) k (b % 2 ^ 23)) (Pow.field b 8 23)

mant_is : (F t : ℕ) → 127 ≤ F → mant F t ≡ 2 ^ 23 + t
mant_is zero t h = absurd (not-le_of_lt (lit< tt) h)
mant_is (suc F) t h = refl

mant_lt : (F t : ℕ) → t < 2 ^ 23 → mant F t < 2 ^ 24
mant_lt zero t h = omega arith
mant_lt (suc F) t h = omega arith

-- ---- the ranges of the field: below 127, from 127 to 189, and from 190 on, of which -2 ^ 63 alone is in range
at_least : (k q F : ℕ) → 2 ^ 23 ≤ q → k ≤ 23 + (F - 1) → 2 ^ k ≤ q * 2 ^ (F - 1)
at_least k q F Q h = le_trans (pow_mono h) (le_trans (le_of_eq (pow-add 2 23 (F - 1))) (mul-le-mul_right (2 ^ (F - 1)) Q))

reaches : (q F : ℕ) → 2 ^ 23 ≤ q → 190 ≤ F → 2 ^ 63 * 2 ^ 149 ≤ q * 2 ^ (F - 1)
reaches q F Q h = le_trans (lit≤ tt) (at_least 212 q F Q (room F h))
  where
    room : (F : ℕ) → 190 ≤ F → 212 ≤ 23 + (F - 1)
    room F h = omega arith

passes : (q F : ℕ) → 2 ^ 23 ≤ q → 190 ≤ F → (F ≡ 190 → 2 ^ 23 < q) → 2 ^ 63 * 2 ^ 149 < q * 2 ^ (F - 1)
passes q F Q h n =
    elim (eq-or-lt_of_le h) [
      | inl e ↦ subst (λ (k : ℕ). 2 ^ 63 * 2 ^ 149 < q * 2 ^ (k - 1)) e (lt_of_le_of_lt (lit≤ tt) (mul-lt-mul_of_pos_right (n (sym e)) (pow_pos 189)))
      | inr l ↦ lt_of_lt_of_le (lit< tt) (at_least 213 q F Q (room F l))
    ]
  where
    room : (F : ℕ) → 190 < F → 213 ≤ 23 + (F - 1)
    room F h = omega arith

module _ (x : Float) (f : T (fits binary32 x)) where
  abbrev b : ℕ
  b = to_bits binary32 x

  -- its sign
  abbrev s : Bool
  s = leb (2 ^ 31) b

  is : x ≡ of_fields binary32 s (field b) (b % 2 ^ 23)
  is = sym (of_bits-to_bits binary32 x f) ∙ fields_of_lem b

  at_bits : field b < 255 → truncated x ≡ truncated_fraction s (mant (field b) (b % 2 ^ 23) * 2 ^ (field b - 1)) (2 ^ 149)
  at_bits h =
      ap truncated is ∙ at_value (of_fields binary32 s (field b) (b % 2 ^ 23)) s (mant (field b) (b % 2 ^ 23) * 2 ^ (field b - 1)) (2 ^ 149) (pow_pos 149)
      (read s (field b) (b % 2 ^ 23) h)

  pub small : field b < 127 → truncated x ≡ Some (pos 0)
  small h =
      at_bits (more (field b) h)
      ∙ nothing s (mant (field b) (b % 2 ^ 23) * 2 ^ (field b - 1)) (2 ^ 149)
      (lt_of_lt_of_le (shl_lt 24 (field b - 1) (mant_lt (field b) (b % 2 ^ 23) (mod-lt b (pow_pos 23)))) (pow_mono (room (field b) h)))
    where
      room : (F : ℕ) → F < 127 → 24 + (F - 1) ≤ 149
      room F h = omega arith

      more : (F : ℕ) → F < 127 → F < 255
      more F h = omega arith

  at_digits : 127 ≤ field b → field b < 255 → truncated x ≡ truncated_fraction s (digits b * 2 ^ (field b - 1)) (2 ^ 149)
  at_digits h k = at_bits k ∙ ap (λ (m : ℕ). truncated_fraction s (m * 2 ^ (field b - 1)) (2 ^ 149)) (mant_is (field b) (b % 2 ^ 23) h)

  pub middle : 127 ≤ field b → field b < 190 → truncated x ≡ Some (signed s (whole_part b))
  middle h k = at_digits h (more (field b) k) ∙ inside s (digits b * 2 ^ (field b - 1)) (2 ^ 149) (size_lt b k)
    where
      more : (F : ℕ) → F < 190 → F < 255
      more F h = omega arith

  pub edge : b ≡ 0xDF00_0000 → truncated x ≡ Some (negsuc 9223372036854775807)
  edge h = ap truncated (sym (of_bits-to_bits binary32 x f) ∙ ap (λ (k : ℕ). of_bits binary32 k) h) ∙ closed
    where
      closed : truncated (of_bits binary32 0xDF00_0000) ≡ Some (negsuc 9223372036854775807)
      closed = unfold of_bits truncated in refl

  pub large : 190 ≤ field b → (b ≡ 0xDF00_0000 → ⊥) → truncated x ≡ None
  large h n = elim (eq-or-lt_of_le (at_most b)) [ inl e ↦ ap truncated is ∙ top s (field b) (b % 2 ^ 23) e | inr l ↦ less l ]
    where
      at_most : (b : ℕ) → field b ≤ 255
      at_most b = omega arith

      some : (F : ℕ) → 190 ≤ F → 127 ≤ F
      some F h = omega arith

      digit : (b : ℕ) → 2 ^ 31 ≤ b → b < 2 ^ 32 → (b ≡ 3741319168 → ⊥) → field b ≡ 190 → 2 ^ 23 < digits b
      digit b p q n e = omega arith

      less : field b < 255 → truncated x ≡ None
      less l =
          at_digits (some (field b) h) l
          ∙ outside s (digits b * 2 ^ (field b - 1)) (2 ^ 149) (reaches (digits b) (field b) (le-add_right (2 ^ 23) (b % 2 ^ 23)) h)
          (λ (t : T s). passes (digits b) (field b) (le-add_right (2 ^ 23) (b % 2 ^ 23)) h (digit b (leb→le (2 ^ 31) b t) (to_bits-lt binary32 x f) n))

-- ---- 0 - n, as the machine works it out
neg_fits : (u : ℕ) → u < 2 ^ 63 → SFits w64 (neg_ℤ (pos u))
neg_fits zero h = record { sfits = h }
neg_fits (suc u) h = record { sfits = le_of_lt h }

pub nought_less : (u : ℕ) → u < 2 ^ 63 → pos 0 -ℤ to_z w64 u ≡ neg_ℤ (pos u)
nought_less u h = ap (λ (z : ℤ). pos 0 -ℤ z) (to_z_pos w64 u h) ∙ +ℤ_idl (neg_ℤ (pos u))

pub less_fits : (u : ℕ) → u < 2 ^ 63 → SFits w64 (pos 0 -ℤ to_z w64 u)
less_fits u h = subst (λ (z : ℤ). SFits w64 z) (sym (nought_less u h)) (neg_fits u h)
