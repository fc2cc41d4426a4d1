-- Ranges of i64: which are too wide, by sums that fit; and that the count and each key of the others fit. Assumes nothing.
use mathlib.Core.Bool.{Bool, true, false, not, ◌&&◌}
use mathlib.Core.Path.{◌≡◌, refl, sym, ap, ap₂, ◌∙◌}
use Prim.Native.Nat.{ℕ, ◌+◌, ◌^◌, ◌≤◌, ◌<◌}
use native.Mathlib.Omega.{arith}
use borrow.Author.Tests.{not-false}
use lib.Dec.{eqb}
use lib.IntN.{ℤ, pos, negsuc, nat_abs, ◌+ℤ◌, ◌-ℤ◌}
use lib.ListN.{length}
use lib.Signed.{mag, lt_z, le_z}
use Rattle.lists.specs.Tabulate.{tabulate}
use Rattle.lists.proofs.Tabulated.{length-tabulate}
use Rattle.categoric_lists.specs.Whole.{whole}
use Rattle.categoric_lists.specs.Range.{range_count, in_i64, too_wide, count_is, range_keys}
use Rattle.categoric_lists.proofs.Numbers.{below, lt_yes, lt_no, le_yes, le_no, yes_le, no_le, sum, difference, both}

-- ---- the numbers that fit
from_fits : (z : ℤ) → mag z < 2 ^ 63 → (whole z < 9223372036854775808) × (below z ≤ 9223372036854775808)
from_fits (pos n) h = (h, omega arith)
from_fits (negsuc n) h = (omega arith, h)

fits : (z : ℤ) → whole z < 9223372036854775808 + below z → below z ≤ 9223372036854775808 + whole z → mag z < 2 ^ 63
fits (pos n) h g = omega arith
fits (negsuc n) h g = omega arith

in_yes : (z : ℤ) → whole z < 9223372036854775808 + below z → below z ≤ 9223372036854775808 + whole z → in_i64 z ≡ true
in_yes z h g = ap₂ ◌&&◌ (yes_le (negsuc 9223372036854775807) z (omega arith)) (yes_le z (pos 9223372036854775807) (omega arith))

second : (a b : Bool) → b ≡ false → (a && b) ≡ false
second true b e = e
second false b e = refl

in_not_above : (z : ℤ) → 9223372036854775808 + below z ≤ whole z → in_i64 z ≡ false
in_not_above z h = second (le_z (negsuc 9223372036854775807) z) (le_z z (pos 9223372036854775807)) (no_le z (pos 9223372036854775807) (omega arith))

in_not_below : (z : ℤ) → 9223372036854775808 + whole z < below z → in_i64 z ≡ false
in_not_below z h = ap (λ (t : Bool). t && le_z z (pos 9223372036854775807)) (no_le (negsuc 9223372036854775807) z (omega arith))

-- ---- too wide or not
module _ (start end : ℤ) where
  -- end - start
  abbrev width : ℤ
  width = end -ℤ start

  wide-above : 9223372036854775807 + below width ≤ whole width → too_wide start end ≡ true
  unfolding too_wide
  wide-above h = ap not (second (in_i64 width) (in_i64 (range_count start end)) (in_not_above (range_count start end) (omega (arith, sum width (pos 1)))))

  wide_below : 9223372036854775808 + whole width < below width → too_wide start end ≡ true
  unfolding too_wide
  wide_below h = ap (λ (t : Bool). not (t && in_i64 (range_count start end))) (in_not_below width h)

  wide_not : whole width < 9223372036854775807 + below width → below width ≤ 9223372036854775808 + whole width → too_wide start end ≡ false
  unfolding too_wide
  wide_not h g =
      ap not (ap₂ ◌&&◌ (in_yes width (omega arith) g) (in_yes (range_count start end) (omega (arith, sum width (pos 1))) (omega (arith, sum width (pos 1)))))

  module _ (s : mag start < 2 ^ 63) (e : mag end < 2 ^ 63) where
    -- a start of at most 0
    pub low_fits : le_z start (pos 0) ≡ true → mag (pos 9223372036854775806 +ℤ start) < 2 ^ 63
    low_fits l =
        fits (pos 9223372036854775806 +ℤ start) (omega (arith, sum (pos 9223372036854775806) start, le_yes start (pos 0) l))
        (omega (arith, sum (pos 9223372036854775806) start, from_fits start s))

    pub low_wide : le_z start (pos 0) ≡ true → lt_z (pos 9223372036854775806 +ℤ start) end ≡ too_wide start end
    low_wide l = go (lt_z (pos 9223372036854775806 +ℤ start) end) (lt_yes (pos 9223372036854775806 +ℤ start) end) (lt_no (pos 9223372036854775806 +ℤ start) end)
      where
        go : (t : Bool) → (t ≡ true → whole (pos 9223372036854775806 +ℤ start) + below end < whole end + below (pos 9223372036854775806 +ℤ start))
            → (t ≡ false → whole end + below (pos 9223372036854775806 +ℤ start) ≤ whole (pos 9223372036854775806 +ℤ start) + below end) → t ≡ too_wide start end
        go true y n = sym (wide-above (omega (arith, y refl, sum (pos 9223372036854775806) start, difference end start)))
        go false y n =
            sym (wide_not (omega (arith, n refl, sum (pos 9223372036854775806) start, difference end start))
            (omega (arith, le_yes start (pos 0) l, from_fits end e, difference end start)))

    -- a start above 0
    pub high_fits : le_z start (pos 0) ≡ false → mag (negsuc 9223372036854775807 +ℤ start) < 2 ^ 63
    high_fits l =
        fits (negsuc 9223372036854775807 +ℤ start) (omega (arith, sum (negsuc 9223372036854775807) start, from_fits start s))
        (omega (arith, sum (negsuc 9223372036854775807) start, le_no start (pos 0) l))

    pub high-wide : le_z start (pos 0) ≡ false → lt_z end (negsuc 9223372036854775807 +ℤ start) ≡ too_wide start end
    high-wide l =
        go (lt_z end (negsuc 9223372036854775807 +ℤ start)) (lt_yes end (negsuc 9223372036854775807 +ℤ start)) (lt_no end (negsuc 9223372036854775807 +ℤ start))
      where
        go : (t : Bool) → (t ≡ true → whole end + below (negsuc 9223372036854775807 +ℤ start) < whole (negsuc 9223372036854775807 +ℤ start) + below end)
            → (t ≡ false → whole (negsuc 9223372036854775807 +ℤ start) + below end ≤ whole end + below (negsuc 9223372036854775807 +ℤ start)) → t
            ≡ too_wide start end
        go true y n = sym (wide_below (omega (arith, y refl, sum (negsuc 9223372036854775807) start, difference end start)))
        go false y n =
            sym (wide_not (omega (arith, le_no start (pos 0) l, from_fits end e, difference end start))
            (omega (arith, n refl, sum (negsuc 9223372036854775807) start, difference end start)))

  -- ---- a range that is not too wide
  module _ (n : too_wide start end ≡ false) where
    width_in : in_i64 width ≡ true
    unfolding too_wide
    width_in = (both (in_i64 width) (in_i64 (range_count start end)) (not-false (in_i64 width && in_i64 (range_count start end)) n)).0

    count_in_lem : in_i64 (range_count start end) ≡ true
    unfolding too_wide
    count_in_lem = (both (in_i64 width) (in_i64 (range_count start end)) (not-false (in_i64 width && in_i64 (range_count start end)) n)).1

    in_fits : (z : ℤ) → in_i64 z ≡ true → mag z < 2 ^ 63
    in_fits z e =
        let b = both (le_z (negsuc 9223372036854775807) z) (le_z z (pos 9223372036854775807)) e in
        fits z (omega (arith, le_yes z (pos 9223372036854775807) b.1)) (omega (arith, le_yes (negsuc 9223372036854775807) z b.0))

    pub width_fits : mag width < 2 ^ 63
    width_fits = in_fits width width_in

    pub count_fits : mag (range_count start end) < 2 ^ 63
    count_fits = in_fits (range_count start end) count_in_lem

  -- each key lies between the bounds
  pub key_fits : mag start < 2 ^ 63 → mag end < 2 ^ 63 → (k : ℕ) → k < whole (range_count start end) → mag (start +ℤ pos k) < 2 ^ 63
  key_fits s e k h =
      fits (start +ℤ pos k) (omega (arith, sum start (pos k), difference end start, sum width (pos 1), none (range_count start end) k h, from_fits end e))
      (omega (arith, sum start (pos k), from_fits start s))
    where
      none : (z : ℤ) (k : ℕ) → k < whole z → below z ≡ 0
      none (pos n) k h = refl
      none (negsuc n) k h = absurd (omega arith)

  pub length-range : length (range_keys start end) ≡ whole (range_count start end)
  unfolding range_keys
  length-range = length-tabulate (whole (range_count start end)) (λ k. start +ℤ pos k)

-- the sums of `too_wide`: that they fit, and what they say
pub ruleset wide_sums = (low_fits, low_wide, high_fits, high-wide)

-- the keys by a count and a start that the machine holds
pub keys_are : (start end s e : ℤ) (n : ℕ) → s ≡ start → e ≡ end → n ≡ whole (range_count s e) → tabulate n (λ k. s +ℤ pos k) ≡ range_keys start end
unfolding range_keys
keys_are start end s e n p q h = ap (λ (m : ℕ). tabulate m (λ k. s +ℤ pos k)) h ∙ ap₂ (λ (x y : ℤ). tabulate (whole (range_count x y)) (λ k. x +ℤ pos k)) p q

-- ---- a count as a length
pub negative-length : (z : ℤ) (n : ℕ) → lt_z z (pos 0) ≡ true → false ≡ count_is z n
negative-length (pos m) n e = absurd (omega (arith, lt_yes (pos m) (pos 0) e))
negative-length (negsuc m) n e = refl

pub cast-length : (z : ℤ) (n : ℕ) → below z ≡ 0 → eqb (nat_abs z) n ≡ count_is z n
cast-length (pos m) n e = refl
cast-length (negsuc m) n e = absurd (omega arith)

pub negative-none : (z : ℤ) → lt_z z (pos 0) ≡ true → 0 ≡ whole z
negative-none (pos n) e = absurd (omega (arith, lt_yes (pos n) (pos 0) e))
negative-none (negsuc n) e = refl

pub cast_fits : (z : ℤ) → mag z < 2 ^ 63 → below z ≡ 0 → nat_abs z < 2 ^ 64
cast_fits (pos n) h e = omega arith
cast_fits (negsuc n) h e = absurd (omega arith)
