-- The plain and the lane index of a fraction that is an f32 agree but at the bits 3B008080. Both keep the order, so where they agree at both ends of a stretch
-- of bit
-- patterns they agree inside; one closed computation over 254 stretches decides it. Assumes nothing.
use mathlib.Core.Path.{◌≡◌, refl, sym, ap, ◌∙◌, subst}
use mathlib.Core.Logic.{◌⊎◌, inl, inr, ◌≢◌}
use Prim.Native.Nat.{ℕ, zero, suc, ◌+◌, ◌-◌, ◌*◌, ◌≤◌}
use native.Mathlib.Nat.{le_of_eq, le_trans, le_antisymm}
use native.Mathlib.Omega.{arith}
use mathlib.Core.Bool.{Bool, false, not, ◌&&◌}
use lib.IntN.{pos, negsuc}
use lib.Dec.{T, eqb, eqb→eq}
use lib.Ieee.{Float, binary32, round, add, mul, le, is_nan, fits, of_bits, to_bits}
use lib.Ieee.Fits.{and_l, and_r}
use lib.Ieee.Scale.{finite}
use Rattle.floats.proofs.Order.{le_refl_float, antisymm, between}
use Rattle.floats.proofs.Mono.{add_mono, mul_mono_by}
use Rattle.floats.proofs.Floors.{floor_mono, half_mono}
use Rattle.floats.proofs.Neighbours.{gap, sep}
use Rattle.floats.proofs.Same.{eq→same}
use lib.Ieee.Bits.{of_bits-to_bits}
use Rattle.floats.specs.RampIndex.{c255, one_half, plain_index, lane_index, one, nought, exception_fraction, in_unit}

-- ---- the indexes are p and l from lo to hi, if they are at lo and at hi
abbrev at : ℕ → ℕ → Float → Bool
at p l x = finite x && (finite (mul binary32 x c255) && (finite (add binary32 (mul binary32 x c255) one_half) && (eqb (plain_index x) p && eqb (lane_index x) l)))

record At (p l : ℕ) (x : Float) : Type 0 where
  own : T (finite x)
  times : T (finite (mul binary32 x c255))
  plus : T (finite (add binary32 (mul binary32 x c255) one_half))
  plain : plain_index x ≡ p
  lane : lane_index x ≡ l

at→ : (p l : ℕ) (x : Float) → T (at p l x) → At p l x
at→ p l x t =
    let A = finite x in
    let B = finite (mul binary32 x c255) in
    let C = finite (add binary32 (mul binary32 x c255) one_half) in
    let D = eqb (plain_index x) p in
    let E = eqb (lane_index x) l in
    let t₁ = and_r A (B && (C && (D && E))) t in
    let t₂ = and_r B (C && (D && E)) t₁ in
    let t₃ = and_r C (D && E) t₂ in
    record {
      own = and_l A (B && (C && (D && E))) t;
      times = and_l B (C && (D && E)) t₁;
      plus = and_l C (D && E) t₂;
      plain = eqb→eq (plain_index x) p (and_l D E t₃);
      lane = eqb→eq (lane_index x) l (and_r D E t₃);
    }

plain_mono : (x y : Float) → T (finite (mul binary32 x c255)) → T (finite (mul binary32 y c255)) → T (le (mul binary32 x c255) (mul binary32 y c255))
    → plain_index x ≤ plain_index y
unfolding plain_index
plain_mono x y p q h = half_mono (mul binary32 x c255) (mul binary32 y c255) p q h

lane_mono : (x y : Float) → T (finite (add binary32 (mul binary32 x c255) one_half)) → T (finite (add binary32 (mul binary32 y c255) one_half))
    → T (le (add binary32 (mul binary32 x c255) one_half) (add binary32 (mul binary32 y c255) one_half)) → lane_index x ≤ lane_index y
unfolding lane_index
lane_mono x y p q h = let k = floor_mono (add binary32 (mul binary32 x c255) one_half) (add binary32 (mul binary32 y c255) one_half) p q h in omega arith

stretch : (p l : ℕ) (lo x hi : Float) → T (at p l lo) → T (at p l hi) → T (le lo x) → T (le x hi) → (plain_index x ≡ p) × (lane_index x ≡ l)
stretch p l lo x hi a b h k =
    let A = at→ p l lo a in
    let B = at→ p l hi b in
    let X = between lo x hi A.own B.own h k in
    let yl = mul binary32 lo c255 in
    let y = mul binary32 x c255 in
    let yh = mul binary32 hi c255 in
    let h₁ : T (le yl y) = mul_mono_by binary32 lo x 255 (pos 0) A.own X h in
    let k₁ : T (le y yh) = mul_mono_by binary32 x hi 255 (pos 0) X B.own k in
    let Y = between yl y yh A.times B.times h₁ k₁ in
    let h₂ : T (le (add binary32 yl one_half) (add binary32 y one_half)) = add_mono binary32 yl y one_half one_half A.times Y tt tt h₁
    (le_refl_float one_half half_real) in
    let k₂ : T (le (add binary32 y one_half) (add binary32 yh one_half)) = add_mono binary32 y yh one_half one_half Y B.times tt tt k₁
    (le_refl_float one_half half_real) in
    let Z = between (add binary32 yl one_half) (add binary32 y one_half) (add binary32 yh one_half) A.plus B.plus h₂ k₂ in (
      le_antisymm (le_trans (plain_mono x hi Y B.times k₁) (le_of_eq B.plain)) (le_trans (le_of_eq (sym A.plain)) (plain_mono lo x A.times Y h₁)),
      le_antisymm (le_trans (lane_mono x hi Z B.plus k₂) (le_of_eq B.lane)) (le_trans (le_of_eq (sym A.lane)) (lane_mono lo x A.plus Z h₂)),
    )
  where
    half_real : T (not (is_nan one_half))
    half_real = unfold is_nan in tt

-- ---- the sweep: the last pattern with the index i, and stretches from index i on
abbrev last : ℕ → ℕ
last i = to_bits binary32 (round binary32 false (2 * i + 1) 510) - 1

abbrev sweep : ℕ → ℕ → ℕ → Bool
sweep zero i lo = at i i (of_bits binary32 lo) && at i i one
sweep (suc n) i lo = let hi = last i in (at i i (of_bits binary32 lo) && (at i i (of_bits binary32 hi) && gap hi)) && sweep n (suc i) (suc hi)

sweep_sound : (n i lo : ℕ) → T (sweep n i lo) → (x : Float) → T (fits binary32 x) → T (finite x) → T (le (of_bits binary32 lo) x) → T (le x one) → plain_index x
    ≡ lane_index x
sweep_sound zero i lo t x f v h k =
    let r = stretch i i (of_bits binary32 lo) x one (and_l (at i i (of_bits binary32 lo)) (at i i one) t) (and_r (at i i (of_bits binary32 lo)) (at i i one) t) h
    k in
    r.0 ∙ sym r.1
sweep_sound (suc n) i lo t x f v h k =
    let hi = last i in
    let A = at i i (of_bits binary32 lo) in
    let B = at i i (of_bits binary32 hi) in
    let t₁ = and_l (A && (B && gap hi)) (sweep n (suc i) (suc hi)) t in
    let t₂ = and_r A (B && gap hi) t₁ in
    let next = sweep_sound n (suc i) (suc hi) (and_r (A && (B && gap hi)) (sweep n (suc i) (suc hi)) t) x f v in
    elim (sep hi x (and_r B (gap hi) t₂) f v) [
      | inl u ↦ (let r = stretch i i (of_bits binary32 lo) x (of_bits binary32 hi) (and_l A (B && gap hi) t₁) (and_l B (gap hi) t₂) h u in r.0 ∙ sym r.1)
      | inr u ↦ next u k
    ]

passes : T (sweep 254 1 0x3B00_8081)
unfolding plain_index lane_index of_bits to_bits round mul add
passes = tt

odd_one-is : of_bits binary32 0x3B00_8080 ≡ exception_fraction
unfolding of_bits
odd_one-is = refl

first_stretch : T (at 0 0 nought) × T (at 0 0 (of_bits binary32 0x3B00_807F)) × T (gap 0x3B00_807F) × T (gap 0x3B00_8080)
unfolding plain_index lane_index of_bits mul add
first_stretch = (tt, tt, tt, tt)

pub at_odd_one : (plain_index exception_fraction ≡ 0) × (lane_index exception_fraction ≡ 1)
unfolding plain_index lane_index mul add
at_odd_one = (refl, refl)

between_odd : (x : Float) → T (fits binary32 x) → T (finite x) → T (le exception_fraction x) → T (le x exception_fraction) → x ≡ exception_fraction
between_odd x f v h k = eq→same binary32 x false 65792 (negsuc 24) f (unfold fits in tt) (antisymm x exception_fraction k h)

unit_law : (x : Float) → T (fits binary32 x) → T (le nought x) → T (le x one) → (x ≡ exception_fraction) ⊎ (plain_index x ≡ lane_index x)
unit_law x f h k =
    let v = between nought x one tt tt h k in
    elim (sep 0x3B00_807F x first_stretch.2 f v) [
      | inl u ↦ inr (let r = stretch 0 0 nought x (of_bits binary32 0x3B00_807F) first_stretch.0 first_stretch.1 h u in r.0 ∙ sym r.1)
      | inr u ↦
          elim (sep 0x3B00_8080 x first_stretch.3 f v) [
            | inl w ↦ inl (between_odd x f v (subst (λ (z : Float). T (le z x)) odd_one-is u) (subst (λ (z : Float). T (le x z)) odd_one-is w))
            | inr w ↦ inr (sweep_sound 254 1 0x3B00_8081 passes x f v w k)
          ]
    ]

-- ---- THE LAW
pub ramp_law : (x : Float) → T (fits binary32 x) → T (in_unit x) → (x ≡ exception_fraction) ⊎ (plain_index x ≡ lane_index x)
ramp_law x f u = unit_law x f (and_l (le nought x) (le x one) u) (and_r (le nought x) (le x one) u)

pub odd_one_bits : to_bits binary32 exception_fraction ≡ 0x3B00_8080
unfolding to_bits
odd_one_bits = refl

-- the same, by bits
pub index_same : (x : Float) → T (fits binary32 x) → T (in_unit x) → to_bits binary32 x ≢ 0x3B00_8080 → plain_index x ≡ lane_index x
index_same x f u n = elim (ramp_law x f u) [ inl e ↦ absurd (n (ap (to_bits binary32) e ∙ odd_one_bits)) | inr e ↦ e ]

pub index_differs : (x : Float) → T (fits binary32 x) → to_bits binary32 x ≡ 0x3B00_8080 → (plain_index x ≡ 0) × (lane_index x ≡ 1)
index_differs x f b =
    let e : x ≡ exception_fraction = sym (of_bits-to_bits binary32 x f) ∙ ap (of_bits binary32) b ∙ odd_one-is in
    (ap plain_index e ∙ at_odd_one.0, ap lane_index e ∙ at_odd_one.1)
