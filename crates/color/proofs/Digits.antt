-- A hex digit and a pair, by what the tests of the code show; a digit is below 16. Assumes nothing.
use Rattle.std.specs.Prelude.{Option, Some, None}
use Prim.Native.Nat.{ℕ, ◌+◌, ◌-◌, ◌<◌, ◌≤◌}
use mathlib.Core.Path.{◌≡◌, refl, sym, subst}
use mathlib.Core.Bool.{Bool, true, false, cond, ◌&&◌}
use native.Mathlib.Omega.{arith}
use borrow.Author.Tests.{le-leb, leb-true, eq-eqb, ne_eqb}
use lib.Dec.{leb}
use Rattle.color.specs.Hex.{between, hex_digit, two_digits, hex_pair}

pub both : (s t : Bool) → s && t ≡ true → (s ≡ true) × (t ≡ true)
both true true e = (refl, refl)
both true false e = (refl, e)
both false true e = (e, refl)
both false false e = (e, e)

by_test :
    (P : Option ℕ → Type 0) (t : Bool) {x y : (Option ℕ)} →
    (t ≡ true → P x) → (t ≡ false → P y) → P (cond t x y)
by_test P true f g = f refl
by_test P false f g = g refl

refuted : (t : Bool) → (t ≡ true → ⊥) → t ≡ false
refuted true h = absurd (h refl)
refuted false h = refl

module _ (first last x : ℕ) where
  inside : first ≤ x → x ≤ last → between first last x ≡ true
  inside p q = rw (le-leb first x p, le-leb x last q)

  from_between : between first last x ≡ true → (first ≤ x) × (x ≤ last)
  from_between e =
      let h : (leb first x ≡ true) × (leb x last ≡ true) = both (leb first x) (leb x last) e
      in (leb-true first x h.0, leb-true x last h.1)

  outside : (first ≤ x → x ≤ last → ⊥) → between first last x ≡ false
  outside h =
      refuted (between first last x) (λ e. h (from_between e).0 (from_between e).1)

module _ (x : ℕ) where
  pub decimal : 48 ≤ x → x ≤ 57 → hex_digit x ≡ Some (x - 48)
  unfolding hex_digit
  decimal p q = rw (inside 48 57 x p q)

  pub upper : 65 ≤ x → x ≤ 70 → hex_digit x ≡ Some (x - 65 + 10)
  unfolding hex_digit
  upper p q = rw (outside 48 57 x (λ a b. omega arith), inside 65 70 x p q)

  pub lower : 97 ≤ x → x ≤ 102 → hex_digit x ≡ Some (x - 97 + 10)
  unfolding hex_digit
  lower p q =
      rw (outside 48 57 x (λ a b. omega arith), outside 65 70 x (λ a b. omega arith), inside 97 102 x p q)

  pub no_digit :
      (48 ≤ x → x ≤ 57 → ⊥) → (65 ≤ x → x ≤ 70 → ⊥) → (97 ≤ x → x ≤ 102 → ⊥) → hex_digit x ≡ None
  unfolding hex_digit
  no_digit p q r = rw (outside 48 57 x p, outside 65 70 x q, outside 97 102 x r)

-- a value is below 16
abbrev Small : Option ℕ → Type 0
Small (Some v) = v < 16
Small None = Unit {0}

digit_small : (x : ℕ) → Small (hex_digit x)
unfolding hex_digit
digit_small x =
    by_test Small (between 48 57 x) (λ e. omega (arith, (from_between 48 57 x e).1))
    (λ _. by_test Small (between 65 70 x) (λ e. omega (arith, (from_between 65 70 x e).1))
    (λ _. by_test Small (between 97 102 x) (λ e. omega (arith, (from_between 97 102 x e).1))
    (λ _. tt)))

-- a digit that was read is below 16
pub below_16 : (x : ℕ) {v : ℕ} → Some v ≡ hex_digit x → v < 16
below_16 x e = subst Small (sym e) (digit_small x)

module _ (high low : ℕ) where
  pub plus_pair : high ≡ 43 → hex_pair high low ≡ hex_digit low
  unfolding hex_pair
  plus_pair e = rw (eq-eqb high 43 e)

  pub digit-pair :
      {h l : (Option ℕ)} →
      (high ≡ 43 → ⊥) → h ≡ hex_digit high → l ≡ hex_digit low → hex_pair high low ≡ two_digits h l
  unfolding hex_pair
  digit-pair not-plus h l = rw (ne_eqb high 43 not-plus, h, l)
