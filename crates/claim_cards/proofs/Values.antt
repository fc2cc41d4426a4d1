-- The values on a card there and back: a float's bits, a key's, and the flags of settings. Assumes nothing.
use mathlib.Core.Path.{◌≡◌, refl, sym, ap, ap₂, subst, ◌∙◌}
use mathlib.Core.Bool.{Bool, true, false, cond, not, ◌||◌, true≢false}
use mathlib.Core.Logic.{inl, inr}
use Prim.Native.Nat.{ℕ, ◌-◌, ◌%◌, ◌^◌, ◌≤◌, ◌<◌}
use native.Mathlib.Omega.{arith}
use borrow.Author.Tests.{lt-ltb, le-ltb, eqb-true}
use lib.Dec.{T, ltb, eqb}
use lib.Ieee.{Float, nan, inf, fin, binary32, fits, is_nan, nan_bits, of_bits, to_bits}
use lib.Ieee.Bits.{of_bits-to_bits, to_bits-lt, of_bits-fits, to_bits-of_bits, nan_bits_is, nan_bits_above}
use lib.IntN.{ℤ, pos, negsuc}
use lib.Signed.{mag}
use Rattle.lists.proofs.Numbers.{lt_or_le}
use Rattle.words.specs.Values.{float_of, bits_of, signed_of, unsigned_of}
use Rattle.card_layout.specs.Entries.{canonical}

or_true : (a : Bool) → (a || true) ≡ true
or_true true = refl
or_true false = refl

-- ---- a float

-- the one NaN is what a NaN's bits stand for
is_nan_lem : (x : Float) → is_nan x ≡ true → nan ≡ x
unfolding is_nan
is_nan_lem nan e = refl
is_nan_lem (inf s) e = absurd (true≢false (sym e))
is_nan_lem (fin s m k) e = absurd (true≢false (sym e))

pub float_is : (bits : ℕ) → float_of bits ≡ of_bits binary32 bits
unfolding float_of
float_is bits = go (nan_bits binary32 bits) refl
  where
    x : Float
    x = of_bits binary32 bits

    go : (b : Bool) → nan_bits binary32 bits ≡ b → cond (ltb 2139095040 (bits % 2147483648)) nan x ≡ x
    go true e = ap (λ (t : Bool). cond t nan x) (sym (nan_bits_above binary32 bits) ∙ e) ∙ is_nan_lem x (sym (nan_bits_is binary32 bits) ∙ e)
    go false e = ap (λ (t : Bool). cond t nan x) (sym (nan_bits_above binary32 bits) ∙ e)

pub float_single : (bits : ℕ) → T (fits binary32 (float_of bits))
float_single bits = subst (λ (x : Float). T (fits binary32 x)) (sym (float_is bits)) (of_bits-fits binary32 bits)

module _ (x : Float) (single : T (fits binary32 x)) where
  pub bits_word : bits_of x < 256 ^ 4
  unfolding bits_of
  bits_word = to_bits-lt binary32 x single

  pub bits_back : float_of (bits_of x) ≡ x
  unfolding bits_of
  bits_back = float_is (to_bits binary32 x) ∙ of_bits-to_bits binary32 x single

  pub bits_canonical : canonical (bits_of x) ≡ true
  unfolding bits_of canonical to_bits nan_bits
  bits_canonical = go (is_nan x) refl
    where
      no_nan : is_nan x ≡ false → nan_bits binary32 (to_bits binary32 x) ≡ false
      no_nan e = nan_bits_is binary32 (to_bits binary32 x) ∙ ap is_nan (of_bits-to_bits binary32 x single) ∙ e

      go : (b : Bool) → is_nan x ≡ b → canonical (to_bits binary32 x) ≡ true
      go true e = ap (λ (y : Float). canonical (to_bits binary32 y)) (sym (is_nan_lem x e))
      go false e = ap (λ (t : Bool). eqb (to_bits binary32 x) 0x7FC00000 || not t) (no_nan e) ∙ or_true (eqb (to_bits binary32 x) 0x7FC00000)

-- the bits of what canonical bits stand for
the_nan : bits_of (float_of 0x7FC00000) ≡ 0x7FC00000
unfolding bits_of float_of to_bits of_bits
the_nan = refl

pub bits_again : (bits : ℕ) → bits < 256 ^ 4 → canonical bits ≡ true → bits_of (float_of bits) ≡ bits
unfolding canonical bits_of
bits_again bits h c = go (eqb bits 0x7FC00000) refl (nan_bits binary32 bits) refl
  where
    go : (a : Bool) → eqb bits 0x7FC00000 ≡ a → (b : Bool) → nan_bits binary32 bits ≡ b → bits_of (float_of bits) ≡ bits
    go true e b f = let is = eqb-true bits 0x7FC00000 e in ap (λ (n : ℕ). bits_of (float_of n)) is ∙ the_nan ∙ sym is
    go false e true f = absurd (true≢false (sym c ∙ ap₂ (λ (a b : Bool). a || not b) e f))
    go false e false f =
        ap (to_bits binary32) (float_is bits)
        ∙ to_bits-of_bits binary32 bits h (subst (λ (b : Bool). T (not b)) (sym (sym (nan_bits_is binary32 bits) ∙ f)) tt)

-- ---- a key
module _ (k : ℤ) (held : mag k < 2 ^ 63) where
  pub key_bits : unsigned_of k < 256 ^ 8
  key_bits = below k held
    where
      below : (k : ℤ) → mag k < 2 ^ 63 → unsigned_of k < 256 ^ 8
      below (pos n) h = omega arith
      below (negsuc n) h = omega arith

  pub key_back : signed_of (unsigned_of k) ≡ k
  unfolding signed_of
  key_back = back k held
    where
      back : (k : ℤ) → mag k < 2 ^ 63 → signed_of (unsigned_of k) ≡ k
      back (pos n) h = ap (λ (t : Bool). cond t (pos n) (negsuc (18446744073709551615 - n))) (lt-ltb n 9223372036854775808 h)
      back (negsuc n) h =
          let m = 18446744073709551615 - n in
          let e : 18446744073709551615 - m ≡ n = omega arith in
          ap (λ (t : Bool). cond t (pos m) (negsuc (18446744073709551615 - m))) (le-ltb m 9223372036854775808 (omega arith)) ∙ ap negsuc e

module _ (n : ℕ) (word : n < 256 ^ 8) where
  pub key_again : (unsigned_of (signed_of n) ≡ n) × (mag (signed_of n) < 2 ^ 63)
  unfolding signed_of
  key_again = elim (lt_or_le n 9223372036854775808) [ inl h ↦ low h | inr h ↦ high h ]
    where
      Again : ℤ → Type 0
      Again k = (unsigned_of k ≡ n) × (mag k < 2 ^ 63)

      low : n < 9223372036854775808 → Again (signed_of n)
      low h = subst (λ (t : Bool). Again (cond t (pos n) (negsuc (18446744073709551615 - n)))) (sym (lt-ltb n 9223372036854775808 h)) (refl, h)

      high : 9223372036854775808 ≤ n → Again (signed_of n)
      high h =
          subst (λ (t : Bool). Again (cond t (pos n) (negsuc (18446744073709551615 - n)))) (sym (le-ltb n 9223372036854775808 h))
          (omega (arith, word), omega (arith, word))
