-- Signed numbers for `omega`: a whole number z is `whole z - below z` in naturals, by which the tests, sums and differences
-- of whole numbers become facts on naturals. And an i64 from its bits. Assumes nothing.
use mathlib.Core.Bool.{Bool, true, false, not, cond, ◌&&◌, true≢false}
use mathlib.Core.Path.{◌≡◌, refl, sym, ap, ap₂, ◌∙◌}
use Prim.Native.Nat.{ℕ, zero, suc, ◌+◌, ◌-◌, ◌^◌, ◌≤◌, ◌<◌}
use native.Mathlib.Omega.{arith}
use borrow.Author.Tests.{ltb-true, ltb-false, not-true, not-false, lt-ltb, le-ltb, le-leb, lt-leb}
use lib.Dec.{T, leb, ltb}
use lib.IntN.{ℤ, pos, negsuc, neg_ℤ, nat_abs, sub_ℕ, ◌+ℤ◌, ◌-ℤ◌}
use lib.Signed.{mag, lt_z, le_z, non_neg}
use mir.Syntax.{w64}
use mir.Val.{to_z, of_z}
use mir.ValLaws.{to_z-of_z}
use Rattle.categoric_lists.specs.Whole.{whole}

-- a number is read back from its bits
pub back : (z : ℤ) → mag z < 2 ^ 63 → to_z w64 (of_z w64 z) ≡ z
back z h = to_z-of_z w64 z (record { sfits = h })

pub back₂ : {A : Type 0} (f : ℤ → ℤ → A) (a b : ℤ) → mag a < 2 ^ 63 → mag b < 2 ^ 63 → f (to_z w64 (of_z w64 a)) (to_z w64 (of_z w64 b)) ≡ f a b
back₂ f a b h g = ap₂ f (back a h) (back b g)

-- how far a number is below 0
abbrev pub below : ℤ → ℕ
below (pos n) = 0
below (negsuc n) = suc n

-- ---- the order
lt_is : (a b : ℤ) → lt_z a b ≡ ltb (whole a + below b) (whole b + below a)
lt_is (pos a) (pos b) = ap₂ ltb (less a) (less b)
  where
    less : (a : ℕ) → a ≡ a + 0
    less a = omega arith
lt_is (pos a) (negsuc b) = sym (le-ltb (a + suc b) 0 (omega arith))
lt_is (negsuc a) (pos b) = sym (lt-ltb 0 (b + suc a) (omega arith))
lt_is (negsuc a) (negsuc b) = same (ltb b a) (ltb-true b a) (ltb-false b a)
  where
    same : (t : Bool) → (t ≡ true → b < a) → (t ≡ false → a ≤ b) → t ≡ ltb (0 + suc b) (0 + suc a)
    same true y n = let h = y refl in sym (lt-ltb (0 + suc b) (0 + suc a) (omega arith))
    same false y n = let h = n refl in sym (le-ltb (0 + suc b) (0 + suc a) (omega arith))

module _ (a b : ℤ) where
  pub lt_yes : lt_z a b ≡ true → whole a + below b < whole b + below a
  lt_yes e = ltb-true (whole a + below b) (whole b + below a) (sym (lt_is a b) ∙ e)

  pub lt_no : lt_z a b ≡ false → whole b + below a ≤ whole a + below b
  lt_no e = ltb-false (whole a + below b) (whole b + below a) (sym (lt_is a b) ∙ e)

  pub yes_lt : whole a + below b < whole b + below a → lt_z a b ≡ true
  yes_lt h = lt_is a b ∙ lt-ltb (whole a + below b) (whole b + below a) h

  pub no_lt : whole b + below a ≤ whole a + below b → lt_z a b ≡ false
  no_lt h = lt_is a b ∙ le-ltb (whole a + below b) (whole b + below a) h

leb_is : (a b : ℕ) → leb a b ≡ not (ltb b a)
leb_is a b = go (ltb b a) (ltb-true b a) (ltb-false b a)
  where
    go : (t : Bool) → (t ≡ true → b < a) → (t ≡ false → a ≤ b) → leb a b ≡ not t
    go true y n = lt-leb a b (y refl)
    go false y n = le-leb a b (n refl)

pub le_is : (a b : ℤ) → le_z a b ≡ not (lt_z b a)
le_is (pos a) (pos b) = leb_is a b
le_is (pos a) (negsuc b) = refl
le_is (negsuc a) (pos b) = refl
le_is (negsuc a) (negsuc b) = leb_is b a

module _ (a b : ℤ) where
  pub le_yes : le_z a b ≡ true → whole a + below b ≤ whole b + below a
  le_yes e = lt_no b a (not-true (lt_z b a) (sym (le_is a b) ∙ e))

  pub le_no : le_z a b ≡ false → whole b + below a < whole a + below b
  le_no e = lt_yes b a (not-false (lt_z b a) (sym (le_is a b) ∙ e))

  pub yes_le : whole a + below b ≤ whole b + below a → le_z a b ≡ true
  yes_le h = le_is a b ∙ ap not (no_lt b a h)

  pub no_le : whole b + below a < whole a + below b → le_z a b ≡ false
  no_le h = le_is a b ∙ ap not (yes_lt b a h)

-- ---- sums and differences
sub_sum : (a b : ℕ) → whole (sub_ℕ a b) + b ≡ a + below (sub_ℕ a b)
sub_sum a b = go (ltb a b) (ltb-true a b) (ltb-false a b)
  where
    go : (t : Bool) → (t ≡ true → a < b) → (t ≡ false → b ≤ a) → whole (cond t (negsuc (b - suc a)) (pos (a - b))) + b
        ≡ a + below (cond t (negsuc (b - suc a)) (pos (a - b)))
    go true y n = let h = y refl in omega arith
    go false y n = let h = n refl in omega arith

pub sum : (a b : ℤ) → whole (a +ℤ b) + (below a + below b) ≡ (whole a + whole b) + below (a +ℤ b)
sum (pos a) (pos b) = refl
sum (pos a) (negsuc b) = omega (arith, sub_sum a (suc b))
sum (negsuc a) (pos b) = omega (arith, sub_sum b (suc a))
sum (negsuc a) (negsuc b) = omega arith

whole_neg : (a : ℤ) → whole (neg_ℤ a) ≡ below a
whole_neg (pos zero) = refl
whole_neg (pos (suc a)) = refl
whole_neg (negsuc a) = refl

below_neg : (a : ℤ) → below (neg_ℤ a) ≡ whole a
below_neg (pos zero) = refl
below_neg (pos (suc a)) = refl
below_neg (negsuc a) = refl

pub difference : (a b : ℤ) → whole (a -ℤ b) + (below a + whole b) ≡ (whole a + below b) + below (a -ℤ b)
difference a b = omega (arith, sum a (neg_ℤ b), whole_neg b, below_neg b)

-- equal numbers by their naturals
pub equal : (a b : ℤ) → whole a + below b ≡ whole b + below a → a ≡ b
equal (pos a) (pos b) h = let e : a ≡ b = omega arith in ap pos e
equal (pos a) (negsuc b) h = absurd (omega arith)
equal (negsuc a) (pos b) h = absurd (omega arith)
equal (negsuc a) (negsuc b) h = let e : a ≡ b = omega arith in ap negsuc e

-- a number that is not negative, as the machine casts it
pub cast_is : (z : ℤ) → below z ≡ 0 → nat_abs z ≡ whole z
cast_is (pos n) e = refl
cast_is (negsuc n) e = absurd (omega arith)

pub cast_may : (z : ℤ) → below z ≡ 0 → T (non_neg z)
cast_may (pos n) e = tt
cast_may (negsuc n) e = absurd (omega arith)

pub not_negative : (z : ℤ) → lt_z z (pos 0) ≡ false → below z ≡ 0
not_negative (pos n) e = refl
not_negative (negsuc n) e = absurd (omega (arith, lt_no (negsuc n) (pos 0) e))

pub up_to : (z : ℤ) (m : ℕ) → lt_z (pos m) z ≡ false → whole z ≤ m
up_to (pos n) m e = ltb-false m n e
up_to (negsuc n) m e = omega arith

-- two tests that hold
pub both : (a b : Bool) → (a && b) ≡ true → (a ≡ true) × (b ≡ true)
both true b e = (refl, e)
both false b e = absurd (true≢false (sym e))
