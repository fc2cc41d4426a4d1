-- `floor_of` and `half_up` keep the order. Assumes nothing.
use mathlib.Core.Path.{◌≡◌, sym, ap, ◌∙◌}
use mathlib.Core.Logic.{inl, inr}
use Prim.Native.Nat.{ℕ, ◌+◌, ◌-◌, ◌*◌, ◌/◌, ◌≤◌, ◌<◌, zero-le}
use native.Mathlib.Nat.{le_of_eq, le_of_lt, mul_comm, mul_assoc, mul_right_comm, zero-mul, zero-div, div-eq_of_lt, eq_of_mul-eq-mul_right, mul-pos, add-mul}
use native.Mathlib.Omega.{arith}
use mathlib.Core.Bool.{true, false, ◌&&◌}
use lib.IntN.{ℤ}
use lib.Dec.{T, ltb, eqb, ltb→lt, eqb→eq}
use lib.Pow.{pow_pos}
use lib.Ieee.{Float, fin, up, down, le}
use lib.Ieee.Fits.{down_pos, and_l, and_r}
use lib.Ieee.Nearest.{div_mono}
use lib.Ieee.Scale.{finite}
use Rattle.floats.proofs.Order.{or_split}
use Rattle.floats.specs.RampIndex.{floor_of, half_up}

-- ---- floors keep the order
pub le→cross : (m : ℕ) (e : ℤ) (n : ℕ) (d : ℤ) → T (le (fin false m e) (fin false n d)) → m * up e * down d ≤ n * up d * down e
unfolding le
le→cross m e n d h =
    let a = m * up e * down d in
    let b = n * up d * down e in
    elim (or_split (ltb a b) (eqb a b && true) h) [ inl l ↦ le_of_lt (ltb→lt a b l) | inr g ↦ le_of_eq (eqb→eq a b (and_l (eqb a b) true g)) ]

pub le→zero : (m : ℕ) (e : ℤ) (n : ℕ) (d : ℤ) → T (le (fin false m e) (fin true n d)) → m * up e ≡ 0
unfolding le
le→zero m e n d h =
    let a = m * up e * down d in
    let b = n * up d * down e in
    first (m * up e) (down d) (down_pos d) (eqb→eq a 0 (and_r (eqb a b) (eqb a 0) h))
  where
    first : (a c : ℕ) → 0 < c → a * c ≡ 0 → a ≡ 0
    first a c C z = eq_of_mul-eq-mul_right c C a 0 (z ∙ sym (zero-mul c))

pub floor_mono : (x y : Float) → T (finite x) → T (finite y) → T (le x y) → floor_of x ≤ floor_of y
floor_mono (fin true m e) (fin t n d) p q h = zero-le
floor_mono (fin false m e) (fin true n d) p q h = le_of_eq (ap (λ (a : ℕ). a / down e) (le→zero m e n d h) ∙ zero-div (down e))
floor_mono (fin false m e) (fin false n d) p q h = div_mono (m * up e) (down e) (n * up d) (down d) (down_pos e) (down_pos d) (le→cross m e n d h)
floor_mono lib.Ieee.nan y p q h = elim p [ ]
floor_mono (lib.Ieee.inf _) y p q h = elim p [ ]
floor_mono (fin false m e) lib.Ieee.nan p q h = elim q [ ]
floor_mono (fin false m e) (lib.Ieee.inf _) p q h = elim q [ ]
floor_mono (fin true m e) lib.Ieee.nan p q h = elim q [ ]
floor_mono (fin true m e) (lib.Ieee.inf _) p q h = elim q [ ]

doubled : (a D D' : ℕ) → (a * 2 + D) * (D' * 2) ≡ (a * D' * 2 + D * D') * 2
doubled a D D' = sym (mul_assoc (a * 2 + D) D' 2) ∙ ap (λ (z : ℕ). z * 2) (add-mul (a * 2) D D' ∙ ap (λ (z : ℕ). z + D * D') (mul_right_comm a 2 D'))

widen : (a D b D' : ℕ) → a * D' ≤ b * D → (a * 2 + D) * (D' * 2) ≤ (b * 2 + D') * (D * 2)
widen a D b D' h = let c : D * D' ≡ D' * D = mul_comm D D' in omega (arith, doubled a D D', doubled b D' D)

pub half_mono : (x y : Float) → T (finite x) → T (finite y) → T (le x y) → half_up x ≤ half_up y
half_mono (fin true m e) (fin t n d) p q h = zero-le
half_mono (fin false m e) (fin true n d) p q h =
    le_of_eq (ap (λ (a : ℕ). (a * 2 + down e) / (down e * 2)) (le→zero m e n d h) ∙ div-eq_of_lt (small (down e) (down_pos e)))
  where
    small : (D : ℕ) → 0 < D → 0 * 2 + D < D * 2
    small D h = omega arith
half_mono (fin false m e) (fin false n d) p q h =
    div_mono (m * up e * 2 + down e) (down e * 2) (n * up d * 2 + down d) (down d * 2) (mul-pos (down_pos e) (pow_pos 1)) (mul-pos (down_pos d) (pow_pos 1))
    (widen (m * up e) (down e) (n * up d) (down d) (le→cross m e n d h))
half_mono lib.Ieee.nan y p q h = elim p [ ]
half_mono (lib.Ieee.inf _) y p q h = elim p [ ]
half_mono (fin false m e) lib.Ieee.nan p q h = elim q [ ]
half_mono (fin false m e) (lib.Ieee.inf _) p q h = elim q [ ]
half_mono (fin true m e) lib.Ieee.nan p q h = elim q [ ]
half_mono (fin true m e) (lib.Ieee.inf _) p q h = elim q [ ]
