-- What `fits f` says of a finite value: at most p digits, a whole number of units of the format's least positive value, and below 2 ^ (emax + 1).
-- Assumes nothing.
use mathlib.Core.Path.{◌≡◌, sym, ap, ◌∙◌, subst}
use mathlib.Core.Logic.{inl, inr}
use Prim.Native.Nat.{ℕ, zero, suc, ◌+◌, ◌-◌, ◌*◌, ◌%◌, ◌^◌, ◌≤◌, ◌<◌}
use native.Mathlib.Nat.{le_of_eq, le_trans, lt_of_lt_of_le, lt_of_le_of_lt, not-le_of_lt, one-mul, mul-one, mul_comm, mul_assoc, mul_right_comm}
use native.Mathlib.Nat.{mul-le-mul_right, zero-mul, mul-pos, mul-lt-mul_of_pos_right, lt_of_mul-lt-mul_right}
use native.Mathlib.Omega.{arith}
use mathlib.Core.Bool.{Bool, ◌&&◌}
use lib.IntN.{ℤ, pos, negsuc}
use lib.Dec.{T, ltb, leb, eqb, ltb→lt, leb→le, eqb→eq}
use lib.Pow.{pow-add, pow_pos, pow-lt}
use lib.Ieee.{Format, fin, prec, emax, low, up, down, fits}
use lib.Ieee.Fits.{up_pos, down_pos, and_l, and_r}
use Rattle.lists.proofs.Numbers.{lt_or_le}
use Rattle.floats.proofs.Order.{depth, size_at, down_is}
use Rattle.floats.proofs.Mono.{unit_split}

depth_le : (K : ℕ) (e : ℤ) → down e ≤ 2 ^ K → depth e ≤ K
depth_le K e h = elim (lt_or_le K (depth e)) [ inl l ↦ absurd (not-le_of_lt (pow-lt l) (subst (λ (z : ℕ). z ≤ 2 ^ K) (down_is e) h)) | inr l ↦ l ]

module _ (f : Format) (s : Bool) where
  pub fits_says : (m : ℕ) (e : ℤ) → T (fits f (fin s m e)) → (m < 2 ^ prec f) × (depth e ≤ low f)
  unfolding fits
  fits_says zero e t = (pow_pos (prec f), depth_le (low f) e (le_trans (le_of_down (up e) (down e) (up_pos e) (eqb→eq (up e * down e) 1 t)) (pow_pos (low f))))
    where
      le_of_down : (u d : ℕ) → 0 < u → u * d ≡ 1 → d ≤ 1
      le_of_down u d U h = le_trans (le_of_eq (sym (one-mul d))) (le_trans (mul-le-mul_right d U) (le_of_eq h))
  fits_says (suc m) e t =
      let a : Bool = eqb (suc m % 2) 1 in
      let b : Bool = ltb (suc m) (2 ^ prec f) in
      let c : Bool = leb (down e) (2 ^ low f) in
      let d : Bool = ltb (suc m * up e) (2 ^ suc (emax f) * down e) in
      let t₁ = and_l (a && b && c) d t in
      (ltb→lt (suc m) (2 ^ prec f) (and_r a b (and_l (a && b) c t₁)), depth_le (low f) e (leb→le (down e) (2 ^ low f) (and_r (a && b) c t₁)))

  under : (m : ℕ) (e : ℤ) → T (fits f (fin s m e)) → m * up e < 2 ^ suc (emax f) * down e
  unfolding fits
  under zero e t = lt_of_le_of_lt (le_of_eq (zero-mul (up e))) (mul-pos (pow_pos (suc (emax f))) (down_pos e))
  under (suc m) e t =
      let a : Bool = eqb (suc m % 2) 1 in
      let b : Bool = ltb (suc m) (2 ^ prec f) in
      let c : Bool = leb (down e) (2 ^ low f) in
      let d : Bool = ltb (suc m * up e) (2 ^ suc (emax f) * down e) in
      ltb→lt (suc m * up e) (2 ^ suc (emax f) * down e) (and_r (a && b && c) d t)

  -- its size in units
  pub fits_size : (m : ℕ) (e : ℤ) → T (fits f (fin s m e)) → size_at (low f) m e < 2 ^ (low f + suc (emax f))
  fits_size m e t =
      let L = low f in
      let M = suc (emax f) in
      let same : size_at L m e * down e ≡ m * up e * 2 ^ L = rw (unit_split L e (fits_says m e t).1) (mul_assoc (m * up e) (2 ^ (L - depth e)) (down e)) in
      let all : 2 ^ M * down e * 2 ^ L ≡ 2 ^ (L + M) * down e = rw (pow-add 2 L M, mul_comm (2 ^ L) (2 ^ M)) (mul_right_comm (2 ^ M) (down e) (2 ^ L)) in
      lt_of_mul-lt-mul_right (down e) (lt_of_le_of_lt (le_of_eq same) (lt_of_lt_of_le (mul-lt-mul_of_pos_right (under m e t) (pow_pos L)) (le_of_eq all)))

-- m * 2 ^ e in units is m times a power of two
pub power_of : (K : ℕ) (e : ℤ) → (j : ℕ) × ((m : ℕ) → size_at K m e ≡ m * 2 ^ j)
power_of K (pos k) = (k + K, λ m. ap (λ (z : ℕ). m * 2 ^ k * 2 ^ z) (whole K) ∙ mul_assoc m (2 ^ k) (2 ^ K) ∙ ap (λ (z : ℕ). m * z) (sym (pow-add 2 k K)))
  where
    whole : (K : ℕ) → K - 0 ≡ K
    whole K = omega arith
power_of K (negsuc k) = (K - suc k, λ m. ap (λ (z : ℕ). z * 2 ^ (K - suc k)) (mul-one m))
