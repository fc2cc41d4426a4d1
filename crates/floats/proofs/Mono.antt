-- Sums and differences of finite floats, of any signs, keep the order: a larger operand gives a result that is no smaller (overflow to an infinity included).
-- So does a product with a constant from zero on. Assumes nothing.
use mathlib.Core.Path.{◌≡◌, refl, sym, ap, ap₂, ◌∙◌}
use Prim.Native.Nat.{ℕ, zero, suc, ◌+◌, ◌-◌, ◌*◌, ◌^◌, ◌≤◌, ◌<◌, zero-le}
use native.Mathlib.Nat.{mul_comm, mul_assoc, mul_left_comm, mul-one, zero-mul, mul-pos, mul-le-mul_right, add-mul, mul-sub}
use native.Mathlib.Omega.{arith}
use mathlib.Core.Bool.{Bool, true, false, not, cond, ◌&&◌}
use lib.IntN.{ℤ}
use lib.Dec.{T, ltb, ltb→lt, lt→ltb}
use lib.Pow.{pow-add, pow_pos}
use lib.Ieee.{Float, nan, inf, fin, Format, binary32, binary64, prec, emax, low, up, down, odd, units, round, sum, neg, add, sub, mul, le}
use lib.Ieee.Fits.{down_pos}
use lib.Ieee.Order.{round_mono}
use lib.Ieee.Scale.{round_same, finite}
use Rattle.floats.proofs.Order.{depth, size_at, off, key, Serves, serves, depth_of, size_of, le→key, key→le, le_le, le_l, le_r, lt_over, down_is, units_l}
use Rattle.floats.proofs.Order.{units_r}
use Rattle.floats.specs.Signed.{positive, negative}
use Rattle.floats.proofs.Sums.{sums, add_is}

-- ---- the sign of a rounded fraction
odd_neg : (d : ℕ) (s : Bool) (q k l : ℕ) → odd d (not s) q k l ≡ neg (odd d s q k l)
unfolding odd neg
odd_neg d s zero k l = refl
odd_neg d s (suc q) k l = refl

units_neg : (f : Format) (s : Bool) (q k : ℕ) → units f (not s) q k ≡ neg (units f s q k)
unfolding units neg
units_neg f s q k = go (ltb (q * 2 ^ k) (2 ^ (low f + suc (emax f))))
  where
    go : (b : Bool) → cond b (odd (suc (prec f)) (not s) q k (low f)) (inf (not s)) ≡ neg (cond b (odd (suc (prec f)) s q k (low f)) (inf s))
    go true = odd_neg (suc (prec f)) s q k (low f)
    go false = refl

pub round_neg : (f : Format) (s : Bool) (a c : ℕ) → round f (not s) a c ≡ neg (round f s a c)
unfolding round
round_neg f s a c = units_neg f s _ _

-- ---- the order under `neg`
neg_serves : (K B : ℕ) (x : Float) → Serves K B x → Serves K B (neg x)
unfolding neg
neg_serves K B nan p = p
neg_serves K B (inf s) p = p
neg_serves K B (fin s m e) p = p

neg_key : (K B : ℕ) (x : Float) → Serves K B x → key K B (neg x) + key K B x ≡ B + B
unfolding neg
neg_key K B nan p = absurd p
neg_key K B (inf true) p = omega arith
neg_key K B (inf false) p = omega arith
neg_key K B (fin true m e) p = omega arith
neg_key K B (fin false m e) p = omega arith

pub neg_anti : (x y : Float) → T (le x y) → T (le (neg y) (neg x))
neg_anti x y h =
    let K = depth_of x + depth_of y in
    let B = suc (size_of K x + size_of K y) in
    let p = serves K B x (le_l x y h) (omega arith) (omega arith) in
    let q = serves K B y (le_r x y h) (omega arith) (omega arith) in
    key→le K B (neg y) (neg x) (neg_serves K B y q) (neg_serves K B x p) (omega (arith, neg_key K B x p, neg_key K B y q, le→key K B x y p q h))

-- ---- `round` keeps the order of signed numbers over one denominator
zeros : (f : Format) → T (le (round f true 0 1) (round f false 0 1))
unfolding le round
zeros binary32 = tt
zeros binary64 = tt

zeros' : (f : Format) → T (le (round f false 0 1) (round f true 0 1))
unfolding le round
zeros' binary32 = tt
zeros' binary64 = tt

nought : (f : Format) (s : Bool) (a c : ℕ) → 0 < c → a ≡ 0 → round f s a c ≡ round f s 0 1
nought f s a c C z = round_same f s a c 0 1 C (pow_pos 0) (mul-one a ∙ z ∙ sym (zero-mul c))

from_zero : (f : Format) (a c : ℕ) → 0 < c → T (le (round f false 0 1) (round f false a c))
from_zero f a c C = round_mono f 0 1 a c (pow_pos 0) C (rw (zero-mul c) zero-le)

pub round_signed : (f : Format) (B D : ℕ) (s t : Bool) (a b : ℕ) → 0 < D → a < B → b < B → off B s a ≤ off B t b → T (le (round f s a D) (round f t b D))
round_signed f B D false false a b C A' B' h = round_mono f a D b D C C (mul-le-mul_right D (omega arith))
round_signed f B D true true a b C A' B' h =
    rw (round_neg f false a D, round_neg f false b D)
    (neg_anti (round f false b D) (round f false a D) (round_mono f b D a D C C (mul-le-mul_right D (omega arith))))
round_signed f B D true false a b C A' B' h =
    let z = round f false 0 1 in
    let n : T (le (round f true a D) (round f true 0 1)) = rw (round_neg f false a D, round_neg f false 0 1)
    (neg_anti z (round f false a D) (from_zero f a D C)) in
    le_le (round f true a D) (round f true 0 1) (round f false b D) n (le_le (round f true 0 1) z (round f false b D) (zeros f) (from_zero f b D C))
round_signed f B D false true a b C A' B' h = rw (nought f false a D C (omega arith), nought f true b D C (omega arith)) (zeros' f)

-- ---- a signed sum
-- the exact sum, moved up by B + B
placed : (B : ℕ) (s : Bool) (a : ℕ) (t : Bool) (b : ℕ) (u : Bool) (n : ℕ) → a < B → b < B → positive s a + positive t b + negative u n
    ≡ negative s a + negative t b + positive u n
    → (n < B + B) × (off (B + B) u n ≡ off B s a + off B t b)
placed B true a true b true n x y h = omega arith
placed B true a true b false n x y h = omega arith
placed B true a false b true n x y h = omega arith
placed B true a false b false n x y h = omega arith
placed B false a true b true n x y h = omega arith
placed B false a true b false n x y h = omega arith
placed B false a false b true n x y h = omega arith
placed B false a false b false n x y h = omega arith

sum_mono : (f : Format) (B : ℕ) (s : Bool) (a : ℕ) (t : Bool) (b : ℕ) (s' : Bool) (a' : ℕ) (t' : Bool) (b' c : ℕ) → 0 < c → a < B → b < B → a' < B → b' < B
    → off B s a + off B t b ≤ off B s' a' + off B t' b' → T (le (sum f s a t b c) (sum f s' a' t' b' c))
sum_mono f B s a t b s' a' t' b' c C x y x' y' h =
    let p = sums f s a t b c in
    let q = sums f s' a' t' b' c in
    let i = placed B s a t b p.0 p.1 x y p.2.exact in
    let j = placed B s' a' t' b' q.0 q.1 x' y' q.2.exact in
    rw (p.3, q.3) (round_signed f (B + B) c p.0 q.0 p.1 q.1 C i.0 j.0 (omega (arith, i.1, j.1)))

-- ---- a sum over another denominator of the same value
sub_mul : (a b c : ℕ) → (a - b) * c ≡ a * c - b * c
sub_mul a b c = mul_comm (a - b) c ∙ mul-sub c a b ∙ ap₂ (λ (x y : ℕ). x - y) (mul_comm c a) (mul_comm c b)

bool_iff : (a b : Bool) → (T a → T b) → (T b → T a) → a ≡ b
bool_iff true true f g = refl
bool_iff true false f g = absurd (f tt)
bool_iff false true f g = absurd (g tt)
bool_iff false false f g = refl

ltb_same : (a b x y c d : ℕ) → 0 < c → 0 < d → a * c ≡ x * d → b * c ≡ y * d → ltb a b ≡ ltb x y
ltb_same a b x y c d C D p q =
    bool_iff (ltb a b) (ltb x y) (λ (t : T (ltb a b)). lt→ltb x y (lt_over a b x y c d C D p q (ltb→lt a b t)))
    (λ (t : T (ltb x y)). lt→ltb a b (lt_over x y a b d c D C (sym p) (sym q) (ltb→lt x y t)))

sum_same : (f : Format) (s : Bool) (a : ℕ) (t : Bool) (b c a' b' c' : ℕ) → 0 < c → 0 < c' → a * c' ≡ a' * c → b * c' ≡ b' * c → sum f s a t b c
    ≡ sum f s a' t b' c'
unfolding sum
sum_same f s a t b c a' b' c' C C' p q =
    let l₁ = ltb_same a b a' b' c' c C' C p q in
    let l₂ = ltb_same b a b' a' c' c C' C q p in
    let u = s && ltb b' a' in
    let e₁ = round_same f s (a + b) c (a' + b') c' C C' (add-mul a b c' ∙ ap₂ (λ (x y : ℕ). x + y) p q ∙ sym (add-mul a' b' c)) in
    let e₂ = round_same f t (b - a) c (b' - a') c' C C' (sub_mul b a c' ∙ ap₂ (λ (x y : ℕ). x - y) q p ∙ sym (sub_mul b' a' c)) in
    let e₃ = round_same f u (a - b) c (a' - b') c' C C' (sub_mul a b c' ∙ ap₂ (λ (x y : ℕ). x - y) p q ∙ sym (sub_mul a' b' c)) in
    cc

-- ---- a sum of two floats in units of 2 ^ -K
add_at : (f : Format) (K : ℕ) (s : Bool) (m : ℕ) (e : ℤ) (t : Bool) (n : ℕ) (d : ℤ) → depth e ≤ K → depth d ≤ K
    → add f (fin s m e) (fin t n d) ≡ sum f s (size_at K m e) t (size_at K n d) (2 ^ K)
add_at f K s m e t n d h k =
    let dd : down e * down d ≡ 2 ^ (depth e + depth d) = ap₂ (λ (x y : ℕ). x * y) (down_is e) (down_is d) ∙ sym (pow-add 2 (depth e) (depth d)) in
    add_is f s m e t n d
    ∙ ap (λ (c : ℕ). sum f s (m * up e * down d) t (n * up d * down e) c) dd
    ∙ sum_same f s (m * up e * down d) t (n * up d * down e) (2 ^ (depth e + depth d)) (size_at K m e) (size_at K n d) (2 ^ K) (pow_pos (depth e + depth d))
    (pow_pos K) (units_l m e d K h) (units_r n e d K k)

pub add_mono : (f : Format) (x x' y y' : Float) → T (finite x) → T (finite x') → T (finite y) → T (finite y') → T (le x x') → T (le y y')
    → T (le (add f x y) (add f x' y'))
add_mono f (fin s m e) (fin s' m' e') (fin t n d) (fin t' n' d') p p' q q' h g =
    let K = depth e + depth e' + depth d + depth d' in
    let B = suc (size_at K m e + size_at K m' e' + size_at K n d + size_at K n' d') in
    let hk = le→key K B (fin s m e) (fin s' m' e') (omega arith) (omega arith) h in
    let gk = le→key K B (fin t n d) (fin t' n' d') (omega arith) (omega arith) g in
    rw (add_at f K s m e t n d (omega arith) (omega arith), add_at f K s' m' e' t' n' d' (omega arith) (omega arith))
    (sum_mono f B s (size_at K m e) t (size_at K n d) s' (size_at K m' e') t' (size_at K n' d') (2 ^ K) (pow_pos K) (omega arith) (omega arith) (omega arith)
    (omega arith) (omega arith))
add_mono f nan _ y _ p p' q q' h g = elim p [ ]
add_mono f (inf _) _ y _ p p' q q' h g = elim p [ ]
add_mono f (fin s m e) nan y _ p p' q q' h g = elim p' [ ]
add_mono f (fin s m e) (inf _) y _ p p' q q' h g = elim p' [ ]
add_mono f (fin s m e) (fin s' m' e') nan _ p p' q q' h g = elim q [ ]
add_mono f (fin s m e) (fin s' m' e') (inf _) _ p p' q q' h g = elim q [ ]
add_mono f (fin s m e) (fin s' m' e') (fin t n d) nan p p' q q' h g = elim q' [ ]
add_mono f (fin s m e) (fin s' m' e') (fin t n d) (inf _) p p' q q' h g = elim q' [ ]

-- ---- differences
neg_finite : (x : Float) → T (finite x) → T (finite (neg x))
unfolding neg
neg_finite (fin s m e) p = p
neg_finite nan p = elim p [ ]
neg_finite (inf _) p = elim p [ ]

pub sub_mono : (f : Format) (x x' y y' : Float) → T (finite x) → T (finite x') → T (finite y) → T (finite y') → T (le x x') → T (le y' y)
    → T (le (sub f x y) (sub f x' y'))
unfolding sub
sub_mono f x x' y y' p p' q q' h g = add_mono f x x' (neg y) (neg y') p p' (neg_finite y q) (neg_finite y' q') h (neg_anti y' y g)

-- ---- a product with a constant above or at zero
mul_is : (f : Format) (s : Bool) (m : ℕ) (e : ℤ) (n : ℕ) (d : ℤ) → mul f (fin s m e) (fin false n d) ≡ round f s (m * up e * (n * up d)) (down e * down d)
unfolding mul
mul_is f true m e n d = refl
mul_is f false m e n d = refl

pub unit_split : (K : ℕ) (e : ℤ) → depth e ≤ K → 2 ^ K ≡ 2 ^ (K - depth e) * down e
unit_split K e h = ap (λ (z : ℕ). 2 ^ z) (split K (depth e) h) ∙ pow-add 2 (K - depth e) (depth e) ∙ ap (λ (z : ℕ). 2 ^ (K - depth e) * z) (sym (down_is e))
  where
    split : (K i : ℕ) → i ≤ K → K ≡ K - i + i
    split K i h = omega arith

mul_at : (f : Format) (K : ℕ) (s : Bool) (m : ℕ) (e : ℤ) (n : ℕ) (d : ℤ) → depth e ≤ K → mul f (fin s m e) (fin false n d)
    ≡ round f s (size_at K m e * (n * up d)) (2 ^ K * down d)
mul_at f K s m e n d h =
    mul_is f s m e n d
    ∙ round_same f s (m * up e * (n * up d)) (down e * down d) (size_at K m e * (n * up d)) (2 ^ K * down d) (mul-pos (down_pos e) (down_pos d))
    (mul-pos (pow_pos K) (down_pos d))
    (rw (unit_split K e h) (simp (mul_assoc, mul_comm, mul_left_comm)))

off_scale : (B X Y N : ℕ) (s t : Bool) → X < B → Y < B → off B s X ≤ off B t Y → off (suc (X * N + Y * N)) s (X * N) ≤ off (suc (X * N + Y * N)) t (Y * N)
off_scale B X Y N false false p q h = let k : X * N ≤ Y * N = mul-le-mul_right N (omega arith) in omega arith
off_scale B X Y N true true p q h = let k : Y * N ≤ X * N = mul-le-mul_right N (omega arith) in omega arith
off_scale B X Y N true false p q h = omega arith
off_scale B X Y N false true p q h =
    let x : X ≡ 0 = omega arith in
    let y : Y ≡ 0 = omega arith in
    let x' : X * N ≡ 0 = rw x (zero-mul N) in
    let y' : Y * N ≡ 0 = rw y (zero-mul N) in
    omega arith

pub mul_mono_by : (f : Format) (x y : Float) (n : ℕ) (d : ℤ) → T (finite x) → T (finite y) → T (le x y)
    → T (le (mul f x (fin false n d)) (mul f y (fin false n d)))
mul_mono_by f (fin s m e) (fin t l g) n d p q h =
    let K = depth e + depth g in
    let X = size_at K m e in
    let Y = size_at K l g in
    let B = suc (X + Y) in
    let N = n * up d in
    let k = le→key K B (fin s m e) (fin t l g) (omega arith) (omega arith) h in
    rw (mul_at f K s m e n d (omega arith), mul_at f K t l g n d (omega arith))
    (round_signed f (suc (X * N + Y * N)) (2 ^ K * down d) s t (X * N) (Y * N) (mul-pos (pow_pos K) (down_pos d)) (omega arith) (omega arith)
    (off_scale B X Y N s t (omega arith) (omega arith) k))
mul_mono_by f nan y n d p q h = elim p [ ]
mul_mono_by f (inf _) y n d p q h = elim p [ ]
mul_mono_by f (fin s m e) nan n d p q h = elim q [ ]
mul_mono_by f (fin s m e) (inf _) n d p q h = elim q [ ]
