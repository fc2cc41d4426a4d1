-- No value of binary32 lies between a bit pattern's value and the next one's. Assumes nothing.
use mathlib.Core.Path.{◌≡◌, sym, ap, ◌∙◌}
use mathlib.Core.Logic.{◌⊎◌, inl, inr}
use Prim.Native.Nat.{ℕ, suc, ◌+◌, ◌-◌, ◌*◌, ◌/◌, ◌%◌, ◌^◌, ◌≤◌, ◌<◌}
use native.Mathlib.Nat.{le_of_eq, le_of_lt, le_trans, not-le_of_lt, mul_assoc, mul-le-mul_right}
use native.Mathlib.Omega.{arith}
use mathlib.Core.Bool.{Bool, true, false, not, ◌&&◌}
use lib.IntN.{ℤ}
use lib.Dec.{T, leb, eqb, eqb→eq, leb→le, lit≤}
use lib.Pow.{pow-add, pow_mono}
use lib.Ieee.{Float, nan, inf, fin, binary32, le, fits, of_bits}
use lib.Ieee.Fits.{and_l, and_r}
use lib.Ieee.Scale.{finite}
use Rattle.floats.proofs.Order.{depth, size_at, size_of, key→le}
use Rattle.floats.proofs.Fitting.{fits_says, power_of}
use Rattle.lists.proofs.Numbers.{lt_or_le}

pub power_lt : (i j : ℕ) → 2 ^ i < 2 ^ j → i < j
power_lt i j h = elim (lt_or_le i j) [ inl l ↦ l | inr l ↦ absurd (not-le_of_lt h (pow_mono l)) ]

-- ---- no number of at most p digits, and zeros, lies between g * 2 ^ k and (g + 1) * 2 ^ k, for a g of p digits
pub apart : (p : ℕ) → 0 < p → (l j g k : ℕ) → l < 2 ^ p → 2 ^ (p - 1) ≤ g → (l * 2 ^ j ≤ g * 2 ^ k) ⊎ (suc g * 2 ^ k ≤ l * 2 ^ j)
apart p P l j g k L G = elim (lt_or_le j k) [ inl h ↦ inl (small h) | inr h ↦ large h ]
  where
    small : j < k → l * 2 ^ j ≤ g * 2 ^ k
    small h =
        le_trans (mul-le-mul_right (2 ^ j) (le_of_lt L))
        (le_trans (le_of_eq (sym (pow-add 2 p j)))
        (le_trans (pow_mono (shift j k h)) (le_trans (le_of_eq (pow-add 2 (p - 1) k)) (mul-le-mul_right (2 ^ k) G))))
      where
        shift : (j k : ℕ) → j < k → p + j ≤ p - 1 + k
        shift j k h = omega arith

    large : k ≤ j → (l * 2 ^ j ≤ g * 2 ^ k) ⊎ (suc g * 2 ^ k ≤ l * 2 ^ j)
    large h =
        let w = l * 2 ^ (j - k) in
        let p : 2 ^ j ≡ 2 ^ (j - k) * 2 ^ k = ap (λ (z : ℕ). 2 ^ z) (back j k h) ∙ pow-add 2 (j - k) k in
        let e : l * 2 ^ j ≡ w * 2 ^ k = ap (λ (z : ℕ). l * z) p ∙ sym (mul_assoc l (2 ^ (j - k)) (2 ^ k)) in
        elim (lt_or_le g w) [ inl u ↦ inr (rw e (mul-le-mul_right (2 ^ k) u)) | inr u ↦ inl (rw e (mul-le-mul_right (2 ^ k) u)) ]
      where
        back : (j k : ℕ) → k ≤ j → j ≡ j - k + k
        back j k h = omega arith

-- ---- the pattern b and the next one stand for neighbours: a closed test
abbrev digits : ℕ → ℕ
digits b = 8388608 + b % 8388608

abbrev field : ℕ → ℕ
field b = b / 8388608 - 1

abbrev plus? : Float → Bool
plus? nan = false
plus? (inf s) = false
plus? (fin s m e) = not s && leb (depth e) 149

abbrev pub gap : ℕ → Bool
gap b =
    let p = of_bits binary32 b in
    let t = of_bits binary32 (suc b) in
    plus? p && (plus? t && (eqb (size_of 149 p) (digits b * 2 ^ field b) && eqb (size_of 149 t) (suc (digits b) * 2 ^ field b)))

-- each value of binary32 is at most the one or at least the other
sides : (s : Bool) (m : ℕ) (e : ℤ) (p t : Float) (g k : ℕ) → T (fits binary32 (fin s m e)) → T (plus? p) → T (plus? t) → 2 ^ 23 ≤ g
    → size_of 149 p ≡ g * 2 ^ k → size_of 149 t ≡ suc g * 2 ^ k
    → T (le (fin s m e) p) ⊎ T (le t (fin s m e))
sides true m e (fin false n d) (fin false n' d') g k f a b G x y =
    let F = fits_says binary32 true m e f in
    let B = suc (size_at 149 m e + size_at 149 n d) in
    inl (key→le 149 B (fin true m e) (fin false n d) (F.1, omega arith) (leb→le (depth d) 149 a, omega arith) (omega arith))
sides false m e (fin false n d) (fin false n' d') g k f a b G x y =
    let F = fits_says binary32 false m e f in
    let z = power_of 149 e in
    let B = suc (size_at 149 m e + size_at 149 n d + size_at 149 n' d') in
    let D = leb→le (depth d) 149 a in
    let D' = leb→le (depth d') 149 b in
    elim (apart 24 (lit≤ tt) m z.0 g k F.0 G) [
      | inl l ↦ inl (key→le 149 B (fin false m e) (fin false n d) (F.1, omega arith) (D, omega arith) (omega (arith, z.1 m)))
      | inr l ↦ inr (key→le 149 B (fin false n' d') (fin false m e) (D', omega arith) (F.1, omega arith) (omega (arith, z.1 m)))
    ]
sides false m e nan t g k f a b G x y = elim a [ ]
sides false m e (inf _) t g k f a b G x y = elim a [ ]
sides false m e (fin false n d) nan g k f a b G x y = elim b [ ]
sides false m e (fin false n d) (inf _) g k f a b G x y = elim b [ ]
sides false m e (fin false n d) (fin true n' d') g k f a b G x y = elim b [ ]
sides false m e (fin true n d) t g k f a b G x y = elim a [ ]
sides true m e nan t g k f a b G x y = elim a [ ]
sides true m e (inf _) t g k f a b G x y = elim a [ ]
sides true m e (fin false n d) nan g k f a b G x y = elim b [ ]
sides true m e (fin false n d) (inf _) g k f a b G x y = elim b [ ]
sides true m e (fin false n d) (fin true n' d') g k f a b G x y = elim b [ ]
sides true m e (fin true n d) t g k f a b G x y = elim a [ ]

pub sep : (b : ℕ) (x : Float) → T (gap b) → T (fits binary32 x) → T (finite x) → T (le x (of_bits binary32 b)) ⊎ T (le (of_bits binary32 (suc b)) x)
sep b (fin s m e) t f _ =
    let p = of_bits binary32 b in
    let q = of_bits binary32 (suc b) in
    let X = eqb (size_of 149 p) (digits b * 2 ^ field b) in
    let Y = eqb (size_of 149 q) (suc (digits b) * 2 ^ field b) in
    let t₁ = and_r (plus? p) (plus? q && (X && Y)) t in
    let t₂ = and_r (plus? q) (X && Y) t₁ in
    sides s m e p q (digits b) (field b) f (and_l (plus? p) (plus? q && (X && Y)) t) (and_l (plus? q) (X && Y) t₁) (omega arith)
    (eqb→eq (size_of 149 p) (digits b * 2 ^ field b) (and_l X Y t₂)) (eqb→eq (size_of 149 q) (suc (digits b) * 2 ^ field b) (and_r X Y t₂))
sep b nan t f x4 = elim x4 [ ]
sep b (inf _) t f x6 = elim x6 [ ]
