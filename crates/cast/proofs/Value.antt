-- `truncated` sees only the value of a float: what it is at a float that is a / c in size, by where a / c lies. Assumes nothing.
use Rattle.std.specs.Prelude.{Some, None}
use mathlib.Core.Path.{◌≡◌, refl, sym, ap, ◌∙◌}
use mathlib.Core.Bool.{Bool, true, false, cond}
use Prim.Native.Nat.{ℕ, ◌*◌, ◌/◌, ◌^◌, ◌≤◌, ◌<◌}
use native.Mathlib.Nat.{div-eq_of_lt, le_of_lt, mul_comm, mul_assoc, mul-le-mul_right, le_of_mul-le-mul_right, mul-lt-mul_of_pos_right, lt_of_mul-lt-mul_right}
use native.Mathlib.Nat.{mul-div-mul_right}
use native.Mathlib.Omega.{arith}
use lib.IntN.{pos}
use lib.Dec.{T, leb, ltb, ltb→lt, lt→ltb, leb→le, le→leb}
use lib.Arith.{lt→nleb, le→nltb}
use lib.Ieee.{Float, fin, up, down}
use lib.Ieee.Fits.{down_pos}
use lib.Ieee.Bits.{is_true, is_false}
use lib.Ieee.Exact.{HasValue}
use Rattle.cast.specs.Truncated.{signed, fraction_in_i64, truncated_fraction, truncated}

-- ---- a fraction may be written with other terms
both_ways : (a b : Bool) → (T a → T b) → (T b → T a) → a ≡ b
both_ways true true f g = refl
both_ways true false f g = absurd (f tt)
both_ways false true f g = absurd (g tt)
both_ways false false f g = refl

leb_times : (x y p : ℕ) → 0 < p → leb x y ≡ leb (x * p) (y * p)
leb_times x y p P =
    both_ways (leb x y) (leb (x * p) (y * p))
    (λ (t : T (leb x y)). le→leb (x * p) (y * p) (mul-le-mul_right p (leb→le x y t)))
    (λ (t : T (leb (x * p) (y * p))). le→leb x y (le_of_mul-le-mul_right (leb→le (x * p) (y * p) t) P))

ltb_times : (x y p : ℕ) → 0 < p → ltb x y ≡ ltb (x * p) (y * p)
ltb_times x y p P =
    both_ways (ltb x y) (ltb (x * p) (y * p))
    (λ (t : T (ltb x y)). lt→ltb (x * p) (y * p) (mul-lt-mul_of_pos_right (ltb→lt x y t) P))
    (λ (t : T (ltb (x * p) (y * p))). lt→ltb x y (lt_of_mul-lt-mul_right p (ltb→lt (x * p) (y * p) t)))

in_times : (s : Bool) (a c p : ℕ) → 0 < p → fraction_in_i64 s a c ≡ fraction_in_i64 s (a * p) (c * p)
in_times true a c p P = leb_times a (2 ^ 63 * c) p P ∙ ap (λ (k : ℕ). leb (a * p) k) (mul_assoc (2 ^ 63) c p)
in_times false a c p P = ltb_times a (2 ^ 63 * c) p P ∙ ap (λ (k : ℕ). ltb (a * p) k) (mul_assoc (2 ^ 63) c p)

cut_times : (s : Bool) (a c p : ℕ) → 0 < p → truncated_fraction s a c ≡ truncated_fraction s (a * p) (c * p)
cut_times s a c p P =
    ap (λ (b : Bool). cond b (Some (signed s (a / c))) None) (in_times s a c p P)
    ∙ ap (λ (k : ℕ). cond (fraction_in_i64 s (a * p) (c * p)) (Some (signed s k)) None) (sym (mul-div-mul_right a c P))

cut_same : (s : Bool) (n d a c : ℕ) → 0 < d → 0 < c → n * c ≡ a * d → truncated_fraction s n d ≡ truncated_fraction s a c
cut_same s n d a c D C e =
    cut_times s n d c C
    ∙ ap (λ (k : ℕ). truncated_fraction s k (d * c)) e
    ∙ ap (λ (k : ℕ). truncated_fraction s (a * d) k) (mul_comm d c)
    ∙ sym (cut_times s a c d D)

pub at_value : (x : Float) (s : Bool) (a c : ℕ) → 0 < c → HasValue x s a c → truncated x ≡ truncated_fraction s a c
unfolding truncated
at_value (fin t m e) s a c C h = ap (λ (b : Bool). truncated_fraction b (m * up e) (down e)) h.0 ∙ cut_same s (m * up e) (down e) a c (down_pos e) C h.1
at_value lib.Ieee.nan s a c C h = elim h [ ]
at_value (lib.Ieee.inf _) s a c C h = elim h [ ]

-- ---- below 2^63 in size, and from there on
pub inside : (s : Bool) (a c : ℕ) → a < 2 ^ 63 * c → truncated_fraction s a c ≡ Some (signed s (a / c))
inside s a c h = ap (λ (b : Bool). cond b (Some (signed s (a / c))) None) (in_range_lem s)
  where
    in_range_lem : (s : Bool) → fraction_in_i64 s a c ≡ true
    in_range_lem true = is_true (leb a (2 ^ 63 * c)) (le→leb a (2 ^ 63 * c) (le_of_lt h))
    in_range_lem false = is_true (ltb a (2 ^ 63 * c)) (lt→ltb a (2 ^ 63 * c) h)

-- below 1
pub nothing : (s : Bool) (a c : ℕ) → a < c → truncated_fraction s a c ≡ Some (pos 0)
nothing s a c h = inside s a c (more a c h) ∙ ap (λ (n : ℕ). Some (signed s n)) (div-eq_of_lt h) ∙ ap Some (no_sign s)
  where
    more : (a c : ℕ) → a < c → a < 9223372036854775808 * c
    more a c h = omega arith

    no_sign : (s : Bool) → signed s 0 ≡ pos 0
    no_sign true = refl
    no_sign false = refl

-- -2^63 itself is not outside
pub outside : (s : Bool) (a c : ℕ) → 2 ^ 63 * c ≤ a → (T s → 2 ^ 63 * c < a) → truncated_fraction s a c ≡ None
outside s a c h k = ap (λ (b : Bool). cond b (Some (signed s (a / c))) None) (out_of_range s k)
  where
    out_of_range : (s : Bool) → (T s → 2 ^ 63 * c < a) → fraction_in_i64 s a c ≡ false
    out_of_range true k = is_false (leb a (2 ^ 63 * c)) (lt→nleb a (2 ^ 63 * c) (k tt))
    out_of_range false k = is_false (ltb a (2 ^ 63 * c)) (le→nltb a (2 ^ 63 * c) h)
