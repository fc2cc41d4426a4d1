-- A sum of finite values is the exact sum, rounded, with the sign of `Operations.Sum`. Assumes nothing.
use mathlib.Core.Path.{◌≡◌, refl}
use Prim.Native.Nat.{ℕ, ◌+◌, ◌-◌, ◌*◌, ◌≤◌, ◌<◌}
use native.Mathlib.Omega.{arith}
use mathlib.Core.Bool.{Bool, true, false, not, cond}
use lib.IntN.{ℤ}
use lib.Dec.{T, ltb, ltb→lt, nltb→le}
use lib.Ieee.{Float, Format, fin, up, down, round, sum, add}
use Rattle.floats.specs.Operations.{Sum}

-- x is what ±a / c + ±b / c rounds to
abbrev pub Rounded : Format → Float → Bool → ℕ → Bool → ℕ → ℕ → Type 0
Rounded f x s a t b c = (u : Bool) × (n : ℕ) × Sum s a t b u n × (x ≡ round f u n c)

pub sums : (f : Format) (s : Bool) (a : ℕ) (t : Bool) (b c : ℕ) → Rounded f (sum f s a t b c) s a t b c
unfolding sum
sums f true a true b c = (true, a + b, record { exact = omega arith; zero = λ (z : a + b ≡ 0). refl }, refl)
sums f false a false b c = (false, a + b, record { exact = omega arith; zero = λ (z : a + b ≡ 0). refl }, refl)
sums f true a false b c = go (ltb a b) (ltb b a) (ltb→lt a b) (nltb→le a b) (ltb→lt b a) (nltb→le b a)
  where
    go : (g h : Bool) → (T g → a < b) → (T (not g) → b ≤ a) → (T h → b < a) → (T (not h) → a ≤ b)
        → Rounded f (cond g (round f false (b - a) c) (round f h (a - b) c)) true a false b c
    go true h p q u v = let k = p tt in (false, b - a, record { exact = omega arith; zero = λ (z : b - a ≡ 0). refl }, refl)
    go false true p q u v = let k = u tt in (true, a - b, record { exact = omega arith; zero = λ (z : a - b ≡ 0). absurd (omega arith) }, refl)
    go false false p q u v = let k = v tt in let l = q tt in (false, a - b, record { exact = omega arith; zero = λ (z : a - b ≡ 0). refl }, refl)
sums f false a true b c = go (ltb a b) (ltb→lt a b) (nltb→le a b)
  where
    go : (g : Bool) → (T g → a < b) → (T (not g) → b ≤ a) → Rounded f (cond g (round f true (b - a) c) (round f false (a - b) c)) false a true b c
    go true p q = let k = p tt in (true, b - a, record { exact = omega arith; zero = λ (z : b - a ≡ 0). absurd (omega arith) }, refl)
    go false p q = let k = q tt in (false, a - b, record { exact = omega arith; zero = λ (z : a - b ≡ 0). refl }, refl)

pub add_is : (f : Format) (s : Bool) (m : ℕ) (e : ℤ) (t : Bool) (n : ℕ) (d : ℤ) → add f (fin s m e) (fin t n d) ≡ sum f s (m * up e * down d) t
    (n * up d * down e) (down e * down d)
unfolding add
add_is f s m e t n d = refl
