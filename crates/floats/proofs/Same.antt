-- Values that fit a format and are equal, zeros aside, are the same float, and so are those with the same sign and size. Assumes nothing.
use mathlib.Core.Path.{◌≡◌, refl, sym, ap, ◌∙◌}
use mathlib.Core.Logic.{◌≢◌}
use Prim.Native.Nat.{ℕ, zero, suc, ◌+◌, ◌*◌, ◌%◌, ◌^◌, ◌<◌}
use native.Mathlib.Nat.{one-mul, pow-suc, pow-succ', zero-lt-suc, mul_assoc, mul_left_comm, mul-one, mul_right_comm, eq_of_mul-eq-mul_right, mul-pos}
use native.Mathlib.Omega.{arith}
use mathlib.Core.Bool.{Bool, true, false, ◌&&◌, ◌||◌, beq}
use lib.IntN.{ℤ, pos, negsuc}
use lib.Dec.{T, ltb, leb, eqb, eqb→eq, lit≤}
use lib.Pow.{pow-add}
use lib.Ieee.{Float, nan, inf, fin, up, down, eq, fits, Format, prec, low, emax}
use lib.Ieee.Fits.{down_pos, up_pos, and_l, and_r}
use lib.Ieee.Exact.{HasValue}
use Rattle.floats.proofs.Order.{zero_times}

-- ---- an odd number times a power of two is so in one way
even_odd : (m t : ℕ) → m % 2 ≡ 1 → m ≡ 2 * t → ⊥
even_odd m t o h = omega arith

odd_pow : (m n a b : ℕ) → m % 2 ≡ 1 → n % 2 ≡ 1 → m * 2 ^ a ≡ n * 2 ^ b → (m ≡ n) × (a ≡ b)
odd_pow m n zero zero o p h = (sym (mul-one m) ∙ h ∙ mul-one n, refl)
odd_pow m n zero (suc b) o p h = absurd (even_odd m (n * 2 ^ b) o (sym (mul-one m) ∙ h ∙ ap (λ (x : ℕ). n * x) (pow-succ' 2 b) ∙ mul_left_comm n 2 (2 ^ b)))
odd_pow m n (suc a) zero o p h = absurd (even_odd n (m * 2 ^ a) p (sym (mul-one n) ∙ sym h ∙ ap (λ (x : ℕ). m * x) (pow-succ' 2 a) ∙ mul_left_comm m 2 (2 ^ a)))
odd_pow m n (suc a) (suc b) o p h =
    let r = odd_pow m n a b o p (eq_of_mul-eq-mul_right 2 (lit≤ tt) (m * 2 ^ a) (n * 2 ^ b)
    (mul_assoc m (2 ^ a) 2 ∙ ap (λ (x : ℕ). m * x) (sym (pow-suc 2 a)) ∙ h ∙ ap (λ (x : ℕ). n * x) (pow-suc 2 b) ∙ sym (mul_assoc n (2 ^ b) 2))) in
    (r.0, ap suc r.1)

is_odd : (f : Format) (s : Bool) (m : ℕ) (e : ℤ) → T (fits f (fin s (suc m) e)) → suc m % 2 ≡ 1
unfolding fits
is_odd f s m e t =
    let a : Bool = eqb (suc m % 2) 1 in
    let b : Bool = ltb (suc m) (2 ^ prec f) in
    let c : Bool = leb (down e) (2 ^ low f) in
    let d : Bool = ltb (suc m * up e) (2 ^ suc (emax f) * down e) in
    eqb→eq (suc m % 2) 1 (and_l a b (and_l (a && b) c (and_l (a && b && c) d t)))

one_way : (m n : ℕ) (e d : ℤ) → m % 2 ≡ 1 → n % 2 ≡ 1 → m * up e * down d ≡ n * up d * down e → (m ≡ n) × (e ≡ d)
one_way m n (pos a) (pos b) o p h = let r = odd_pow m n a b o p (sym (mul-one (m * 2 ^ a)) ∙ h ∙ mul-one (n * 2 ^ b)) in (r.0, ap pos r.1)
one_way m n (negsuc a) (negsuc b) o p h =
    let r = odd_pow m n (suc b) (suc a) o p (sym (ap (λ (z : ℕ). z * 2 ^ suc b) (mul-one m)) ∙ h ∙ ap (λ (z : ℕ). z * 2 ^ suc a) (mul-one n)) in
    (r.0, ap negsuc (sym (down_one b a r.1)))
  where
    down_one : (b a : ℕ) → suc b ≡ suc a → b ≡ a
    down_one b a h = omega arith
one_way m n (pos a) (negsuc b) o p h =
    let r = odd_pow m n (a + suc b) 0 o p (ap (λ (z : ℕ). m * z) (pow-add 2 a (suc b)) ∙ sym (mul_assoc m (2 ^ a) (2 ^ suc b)) ∙ h ∙ mul-one (n * 1)) in
    let z = r.1 in absurd (omega arith)
one_way m n (negsuc a) (pos b) o p h =
    let r = odd_pow m n 0 (b + suc a) o p (sym (mul-one (m * 1)) ∙ h ∙ mul_assoc n (2 ^ b) (2 ^ suc a) ∙ ap (λ (z : ℕ). n * z) (sym (pow-add 2 b (suc a)))) in
    let z = r.1 in absurd (omega arith)

signs : (s t : Bool) (a : ℕ) → a ≢ 0 → T (beq s t || eqb a 0) → s ≡ t
signs true true a n h = refl
signs true false a n h = absurd (n (eqb→eq a 0 h))
signs false true a n h = absurd (n (eqb→eq a 0 h))
signs false false a n h = refl

above : (n : ℕ) (u v : ℕ) → 0 < u → 0 < v → suc n * u * v ≢ 0
above n u v up' vp z = let h : 0 < suc n * u * v = mul-pos (mul-pos (zero-lt-suc n) up') vp in omega arith

-- ---- values that fit and are equal, and not zero, are the same
pub eq→same : (f : Format) (x : Float) (t : Bool) (n : ℕ) (d : ℤ) → T (fits f x) → T (fits f (fin t (suc n) d)) → T (eq x (fin t (suc n) d)) → x
    ≡ fin t (suc n) d
unfolding eq
eq→same f nan t n d p q h = absurd h
eq→same f (inf s) t n d p q h = absurd h
eq→same f (fin s zero e) t n d p q h =
    let a = 0 * up e * down d in
    let b = suc n * up d * down e in
    let z : a ≡ b = eqb→eq a b (and_l (eqb a b) (beq s t || eqb a 0) h) in
    absurd (above n (up d) (down e) (up_pos d) (down_pos e) (sym z ∙ zero_times (up e) (down d)))
eq→same f (fin s (suc m) e) t n d p q h =
    let a = suc m * up e * down d in
    let b = suc n * up d * down e in
    let r = one_way (suc m) (suc n) e d (is_odd f s m e p) (is_odd f t n d q) (eqb→eq a b (and_l (eqb a b) (beq s t || eqb a 0) h)) in
    let g = signs s t a (above m (up e) (down d) (up_pos e) (down_pos d)) (and_r (eqb a b) (beq s t || eqb a 0) h) in
    λ i. fin (g i) (r.0 i) (r.1 i)

-- ---- values that fit and have the same sign and size are the same
twice : (w : ℕ) → 2 * w ≡ 1 → ⊥
twice w h = omega arith

pub zero_exponent : (e : ℤ) → up e * down e ≡ 1 → e ≡ pos 0
zero_exponent (pos zero) h = refl
zero_exponent (pos (suc k)) h = absurd (twice (2 ^ k) (sym (pow-succ' 2 k) ∙ sym (mul-one (2 ^ suc k)) ∙ h))
zero_exponent (negsuc k) h = absurd (twice (2 ^ k) (sym (pow-succ' 2 k) ∙ sym (one-mul (2 ^ suc k)) ∙ h))

pub value→same : (f : Format) (s : Bool) (a c : ℕ) (x y : Float) → 0 < c → T (fits f x) → T (fits f y) → HasValue x s a c → HasValue y s a c → x ≡ y
unfolding fits
value→same f s a c (fin t m e) (fin u n d) C p q h k = go m n p q cross
  where
    cross : m * up e * down d ≡ n * up d * down e
    cross =
        eq_of_mul-eq-mul_right c C (m * up e * down d) (n * up d * down e)
        (mul_right_comm (m * up e) (down d) c ∙ ap (λ (z : ℕ). z * down d) h.1 ∙ mul_right_comm a (down e) (down d)
        ∙ ap (λ (z : ℕ). z * down e) (sym k.1) ∙ mul_right_comm (n * up d) c (down e))

    sign : t ≡ u
    sign = h.0 ∙ sym k.0

    go : (m n : ℕ) → T (fits f (fin t m e)) → T (fits f (fin u n d)) → m * up e * down d ≡ n * up d * down e → fin t m e ≡ fin u n d
    go zero zero p q r = let i = zero_exponent e (eqb→eq (up e * down e) 1 p) ∙ sym (zero_exponent d (eqb→eq (up d * down d) 1 q)) in λ j. fin (sign j) 0 (i j)
    go zero (suc n) p q r = absurd (above n (up d) (down e) (up_pos d) (down_pos e) (sym r ∙ zero_times (up e) (down d)))
    go (suc m) zero p q r = absurd (above m (up e) (down d) (up_pos e) (down_pos d) (r ∙ zero_times (up d) (down e)))
    go (suc m) (suc n) p q r = let o = one_way (suc m) (suc n) e d (is_odd f t m e p) (is_odd f u n d q) r in λ j. fin (sign j) (o.0 j) (o.1 j)
value→same f s a c nan y C p q h k = elim h [ ]
value→same f s a c (inf _) y C p q h k = elim h [ ]
value→same f s a c (fin t m e) nan C p q h k = elim k [ ]
value→same f s a c (fin t m e) (inf _) C p q h k = elim k [ ]
