-- |x - y| and |y - x| are the same float. From the end of an interval on, whose width in f32 is E at least, nothing is within E of its start, and before its
-- start nothing is within E of its end. Assumes nothing.
use mathlib.Core.Path.{◌≡◌, refl, sym, ap, ◌∙◌}
use Prim.Native.Nat.{ℕ, zero, suc, ◌+◌, ◌-◌, ◌*◌, ◌^◌, ◌≤◌, ◌<◌}
use native.Mathlib.Nat.{mul_comm}
use native.Mathlib.Omega.{arith}
use mathlib.Core.Bool.{Bool, true, false, not, cond}
use lib.IntN.{ℤ}
use lib.Dec.{T, ltb, ltb→lt, nltb→le}
use lib.Ieee.{Float, nan, inf, fin, Format, prec, emax, low, up, down, odd, units, round, sum, sub, le, is_nan}
use Rattle.floats.specs.Size.{abs}
use lib.Ieee.Scale.{finite}
use Rattle.floats.proofs.Order.{depth, size_at, key→le, le_le, le_l, le_r, le_refl_float, finite_real}
use Rattle.floats.proofs.Mono.{sub_mono}

-- ---- the size of a rounded fraction
abs_odd : (d : ℕ) (s : Bool) (q k l : ℕ) → abs (odd d s q k l) ≡ odd d false q k l
unfolding odd
abs_odd d s zero k l = refl
abs_odd d s (suc q) k l = refl

abs_units : (f : Format) (s : Bool) (q k : ℕ) → abs (units f s q k) ≡ units f false q k
unfolding units
abs_units f s q k = go (ltb (q * 2 ^ k) (2 ^ (low f + suc (emax f))))
  where
    go : (b : Bool) → abs (cond b (odd (suc (prec f)) s q k (low f)) (inf s)) ≡ cond b (odd (suc (prec f)) false q k (low f)) (inf false)
    go true = abs_odd (suc (prec f)) s q k (low f)
    go false = refl

pub abs_round : (f : Format) (s : Bool) (a c : ℕ) → abs (round f s a c) ≡ round f false a c
unfolding round
abs_round f s a c = abs_units f s _ _

-- the size of a difference of sizes, whichever way round
apart : (f : Format) (s t : Bool) (a b c : ℕ) → abs (cond (ltb a b) (round f s (b - a) c) (round f t (a - b) c)) ≡ round f false (a - b + (b - a)) c
apart f s t a b c = go (ltb a b) (ltb→lt a b) (nltb→le a b)
  where
    go : (g : Bool) → (T g → a < b) → (T (not g) → b ≤ a) → abs (cond g (round f s (b - a) c) (round f t (a - b) c)) ≡ round f false (a - b + (b - a)) c
    go true p q = let h = p tt in abs_round f s (b - a) c ∙ ap (λ (n : ℕ). round f false n c) (omega arith)
    go false p q = let h = q tt in abs_round f t (a - b) c ∙ ap (λ (n : ℕ). round f false n c) (omega arith)

-- the size of a sum is that of the sum of the negated operands, the other way round
abs-sum : (f : Format) (s : Bool) (a : ℕ) (t : Bool) (b c : ℕ) → abs (sum f s a (not t) b c) ≡ abs (sum f t b (not s) a c)
unfolding sum
abs-sum f true a true b c = apart f false (ltb b a) a b c ∙ ap (λ (n : ℕ). round f false n c) (omega arith) ∙ sym (apart f false (ltb a b) b a c)
abs-sum f true a false b c = abs_round f true (a + b) c ∙ ap (λ (n : ℕ). round f false n c) (omega arith) ∙ sym (abs_round f false (b + a) c)
abs-sum f false a true b c = abs_round f false (a + b) c ∙ ap (λ (n : ℕ). round f false n c) (omega arith) ∙ sym (abs_round f true (b + a) c)
abs-sum f false a false b c = apart f true false a b c ∙ ap (λ (n : ℕ). round f false n c) (omega arith) ∙ sym (apart f true false b a c)

sub_is : (f : Format) (s : Bool) (m : ℕ) (e : ℤ) (t : Bool) (n : ℕ) (d : ℤ) → sub f (fin s m e) (fin t n d) ≡ sum f s (m * up e * down d) (not t)
    (n * up d * down e) (down e * down d)
unfolding sub
sub_is f s m e t n d = refl

pub abs_sub : (f : Format) (x y : Float) → abs (sub f x y) ≡ abs (sub f y x)
unfolding sub
abs_sub f nan nan = refl
abs_sub f nan (inf t) = refl
abs_sub f nan (fin t n d) = refl
abs_sub f (inf s) nan = refl
abs_sub f (inf true) (inf true) = refl
abs_sub f (inf true) (inf false) = refl
abs_sub f (inf false) (inf true) = refl
abs_sub f (inf false) (inf false) = refl
abs_sub f (inf s) (fin t n d) = refl
abs_sub f (fin s m e) nan = refl
abs_sub f (fin s m e) (inf t) = refl
abs_sub f (fin s m e) (fin t n d) = swapped
  where
    swapped : abs (sub f (fin s m e) (fin t n d)) ≡ abs (sub f (fin t n d) (fin s m e))
    swapped =
        ap abs (sub_is f s m e t n d)
        ∙ abs-sum f s (m * up e * down d) t (n * up d * down e) (down e * down d)
        ∙ ap (λ (c : ℕ). abs (sum f t (n * up d * down e) (not s) (m * up e * down d) c)) (mul_comm (down e) (down d))
        ∙ sym (ap abs (sub_is f t n d s m e))

-- ---- a difference of finite values is no NaN
pub sub_real : (f : Format) (x y : Float) → T (finite x) → T (finite y) → T (not (is_nan (sub f x y)))
sub_real f x y p q = le_l (sub f x y) (sub f x y) (sub_mono f x x y y p p q q (le_refl_float x (finite_real x p)) (le_refl_float y (finite_real y q)))

pub abs_ge : (x : Float) → T (not (is_nan x)) → T (le x (abs x))
unfolding is_nan
abs_ge nan n = absurd n
abs_ge (inf true) n = unfold le in tt
abs_ge (inf false) n = unfold le in tt
abs_ge (fin true m e) n = key→le (depth e) (suc (size_at (depth e) m e)) (fin true m e) (fin false m e) (omega arith) (omega arith) (omega arith)
abs_ge (fin false m e) n = le_refl_float (fin false m e) tt

pub le_top : (x : Float) → T (not (is_nan x)) → T (le x (inf false))
unfolding is_nan le
le_top nan n = absurd n
le_top (inf true) n = tt
le_top (inf false) n = tt
le_top (fin s m e) n = tt

-- ---- from hi on nothing is within E of lo, as far as hi - lo in f32 is E at least; v may be an infinity
pub beyond : (f : Format) (E lo hi v : Float) → T (finite lo) → T (finite hi) → T (le E (sub f hi lo)) → T (le hi v) → T (le E (abs (sub f v lo)))
unfolding is_nan
beyond f E lo hi nan p q w h = absurd (le_r hi nan h)
beyond f E (fin s m e) hi (inf t) p q w h = unfold sub in le_top E (le_l E (sub f hi (fin s m e)) w)
beyond f E lo hi (fin t n d) p q w h =
    let v = fin t n d in
    le_le E (sub f hi lo) (abs (sub f v lo)) w
    (le_le (sub f hi lo) (sub f v lo) (abs (sub f v lo)) (sub_mono f hi v lo lo q tt p p h (le_refl_float lo (finite_real lo p)))
    (abs_ge (sub f v lo) (sub_real f v lo tt p)))
beyond f E nan hi (inf t) p q w h = elim p [ ]
beyond f E (inf _) hi (inf t) p q w h = elim p [ ]

-- and up to lo nothing is within E of hi
pub before : (f : Format) (E lo hi v : Float) → T (finite lo) → T (finite hi) → T (not (is_nan v)) → T (le E (sub f hi lo)) → T (le v lo)
    → T (le E (abs (sub f v hi)))
unfolding is_nan
before f E lo hi nan p q r w h = absurd r
before f E lo (fin s m e) (inf t) p q r w h = unfold sub in le_top E (le_l E (sub f (fin s m e) lo) w)
before f E lo hi (fin t n d) p q r w h =
    let v = fin t n d in
    rw (abs_sub f v hi)
    (le_le E (sub f hi lo) (abs (sub f hi v)) w
    (le_le (sub f hi lo) (sub f hi v) (abs (sub f hi v)) (sub_mono f hi hi lo v q q p tt (le_refl_float hi (finite_real hi q)) h)
    (abs_ge (sub f hi v) (sub_real f hi v q tt))))
before f E lo nan (inf t) p q r w h = elim q [ ]
before f E lo (inf _) (inf t) p q r w h = elim q [ ]
