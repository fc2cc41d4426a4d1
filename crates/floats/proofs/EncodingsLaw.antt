-- The language's bits of a float, and float of bits, are those of `Encodings`, in both formats, and there are no others. Assumes nothing.
use mathlib.Core.Path.{◌≡◌, refl, sym, ap, ◌∙◌, subst, subst₂}
use Prim.Native.Nat.{ℕ, zero, suc, ◌+◌, ◌-◌, ◌*◌, ◌/◌, ◌%◌, ◌^◌, ◌≤◌, ◌<◌}
use native.Mathlib.Nat.{le_of_eq, le_trans, lt_of_lt_of_le, lt_of_le_of_lt, le_of_suc-le-suc, zero-lt-suc, mul_comm, mul_assoc, mul-pos, mul-le-mul_right}
use native.Mathlib.Nat.{suc-mul, two-mul, add-mul, suc-le-suc_iff, mod-lt, mod-eq_of_lt, mod-eq-sub-mod, div-add-mod', div-lt_iff_lt-mul, le-div_iff_mul-le}
use native.Mathlib.Omega.{arith}
use mathlib.Core.Bool.{Bool, true, false, not, cond}
use lib.Dec.{T, leb, eqb, leb→le, nleb→lt, eqb→eq}
use lib.Arith.{digits_div, digits_mod, mod-mul, lt_of_le-ne}
use lib.Pow.{pow_pos}
use lib.Ieee.{Float, nan, inf, fin, Format, prec, low, odd, fits, is_nan, hid, ones, top, of_fields, of_bits, to_bits}
use lib.Ieee.Exact.{HasValue, odd_sign}
use lib.Ieee.Fits.{eq→eqb}
use lib.Ieee.Bits.{of_bits-to_bits, to_bits-lt, of_bits-fits, to_bits-of_bits}
use Rattle.floats.specs.Formats.{parameters}
use Rattle.floats.specs.Encodings.{significand, StandsFor, Encodes}
use Rattle.floats.proofs.Same.{value→same}

-- ---- three fields
module _ (f : Format) (S : Bool) where
  abbrev Stands : ℕ → ℕ → Float → Type 0
  Stands = StandsFor (parameters f) S

  finite : (E D : ℕ) (x : Float) → E < ones f → HasValue x S (significand (parameters f) E D * 2 ^ (E - 1)) (2 ^ low f) → Stands E D x
  finite E D nan l v = absurd v
  finite E D (inf s) l v = absurd v
  finite E D (fin s m e) l v = (l, v)

  fields_stand : (E D : ℕ) → E ≤ ones f → Stands E D (of_fields f S E D)
  unfolding of_fields
  fields_stand zero D l = finite 0 D (odd (prec f) S D 0 (low f)) (omega arith) (odd_sign (prec f) S D 0 (low f))
  fields_stand (suc E) D l =
      go (eqb (suc E) (ones f)) (eqb D 0) (eqb→eq (suc E) (ones f)) (λ (e : suc E ≡ ones f). eq→eqb e) (eqb→eq D 0) (λ (e : D ≡ 0). eq→eqb e)
    where
      x : Float
      x = odd (prec f) S (hid f + D) E (low f)

      value : HasValue x S ((hid f + D) * 2 ^ (suc E - 1)) (2 ^ low f)
      value = subst (λ (k : ℕ). HasValue x S ((hid f + D) * 2 ^ k) (2 ^ low f)) (less_one E) (odd_sign (prec f) S (hid f + D) E (low f))
        where
          less_one : (k : ℕ) → k ≡ suc k - 1
          less_one k = omega arith

      go : (a z : Bool) → (T a → suc E ≡ ones f) → (suc E ≡ ones f → T a) → (T z → D ≡ 0) → (D ≡ 0 → T z)
          → Stands (suc E) D (cond a (cond z (inf S) nan) x)
      go true true p q i j = (p tt, i tt, refl)
      go true false p q i j = (p tt, j)
      go false z p q i j = finite (suc E) D x (lt_of_le-ne l q) value

  stands_unique : (E D : ℕ) (x y : Float) → T (fits f x) → T (fits f y) → Stands E D x → Stands E D y → x ≡ y
  stands_unique E D nan nan i j h k = refl
  stands_unique E D nan (inf t) i j h k = absurd (h.1 k.1)
  stands_unique E D nan (fin t n d) i j h k = absurd (omega (arith, h.0, k.0))
  stands_unique E D (inf s) nan i j h k = absurd (k.1 h.1)
  stands_unique E D (inf s) (inf t) i j h k = ap inf (h.2 ∙ sym k.2)
  stands_unique E D (inf s) (fin t n d) i j h k = absurd (omega (arith, h.0, k.0))
  stands_unique E D (fin s m e) nan i j h k = absurd (omega (arith, h.0, k.0))
  stands_unique E D (fin s m e) (inf t) i j h k = absurd (omega (arith, h.0, k.0))
  stands_unique E D (fin s m e) (fin t n d) i j h k =
      value→same f S (significand (parameters f) E D * 2 ^ (E - 1)) (2 ^ low f) (fin s m e) (fin t n d) (pow_pos (low f)) i j h.1 k.1

-- ---- a number by its fields, for W values of E and H of T
module _ (H W : ℕ) (hp : 0 < H) (wp : 0 < W) where
  upper : (n : ℕ) → n % (H * W) / H ≡ n / H % W
  upper n = ap (λ (z : ℕ). n % z / H) (mul_comm H W) ∙ ap (λ (z : ℕ). z / H) (mod-mul n wp hp) ∙ digits_div (n / H % W) (mod-lt n hp)

  sign_and_exponent : (n : ℕ) → n < 2 * (H * W) → n / H ≡ cond (leb (H * W) n) 1 0 * W + n / H % W
  sign_and_exponent n h = go (leb (H * W) n) (leb→le (H * W) n) (nleb→lt (H * W) n)
    where
      under : n / H < W + W
      under = (div-lt_iff_lt-mul hp).1 (lt_of_lt_of_le h (le_of_eq (twice H W)))
        where
          twice : (H W : ℕ) → 2 * (H * W) ≡ (W + W) * H
          twice H W = ap (λ (z : ℕ). 2 * z) (mul_comm H W) ∙ two-mul (W * H) ∙ sym (add-mul W W H)

      go : (s : Bool) → (T s → H * W ≤ n) → (T (not s) → n < H * W) → n / H ≡ cond s 1 0 * W + n / H % W
      go true p q =
          let l : W ≤ n / H = (le-div_iff_mul-le hp).1 (le_trans (le_of_eq (mul_comm W H)) (p tt)) in
          let r : n / H % W ≡ n / H - W = mod-eq-sub-mod l ∙ mod-eq_of_lt (omega (arith, under)) in
          omega arith
      go false p q =
          let r : n / H % W ≡ n / H = mod-eq_of_lt ((div-lt_iff_lt-mul hp).1 (lt_of_lt_of_le (q tt) (le_of_eq (mul_comm H W)))) in
          omega arith

  number : (n : ℕ) → n < 2 * (H * W) → n ≡ (cond (leb (H * W) n) 1 0 * W + n % (H * W) / H) * H + n % H
  number n h = sym (div-add-mod' n H) ∙ ap (λ (z : ℕ). z * H + n % H) (sign_and_exponent n h ∙ ap (λ (z : ℕ). cond (leb (H * W) n) 1 0 * W + z) (sym (upper n)))

  -- the fields are one number's only
  same_fields : (S S' : Bool) (E E' D D' : ℕ) → E < W → E' < W → D < H → D' < H
      → (cond S 1 0 * W + E) * H + D ≡ (cond S' 1 0 * W + E') * H + D' → (S ≡ S') × (E ≡ E') × (D ≡ D')
  same_fields S S' E E' D D' e e' d d' h =
      let q = sym (digits_div (cond S 1 0 * W + E) d) ∙ ap (λ (z : ℕ). z / H) h ∙ digits_div (cond S' 1 0 * W + E') d' in
      let s = sym (digits_div (cond S 1 0) e) ∙ ap (λ (z : ℕ). z / W) q ∙ digits_div (cond S' 1 0) e' in (
        signs S S' s,
        sym (digits_mod (cond S 1 0) e) ∙ ap (λ (z : ℕ). z % W) q ∙ digits_mod (cond S' 1 0) e',
        sym (digits_mod (cond S 1 0 * W + E) d) ∙ ap (λ (z : ℕ). z % H) h ∙ digits_mod (cond S' 1 0 * W + E') d',
      )
    where
      signs : (S S' : Bool) → ◌≡◌ {A = ℕ} (cond S 1 0) (cond S' 1 0) → S ≡ S'
      signs true true h = refl
      signs true false h = absurd (omega arith)
      signs false true h = absurd (omega arith)
      signs false false h = refl

  in_width : (S : Bool) (E D : ℕ) → E < W → D < H → (cond S 1 0 * W + E) * H + D < 2 * (H * W)
  in_width S E D e d =
      let l : suc (cond S 1 0 * W + E) ≤ 2 * W = at_most S in
      lt_of_lt_of_le (room (cond S 1 0 * W + E) d) (le_trans (mul-le-mul_right H l) (le_of_eq (mul_assoc 2 W H ∙ ap (λ (z : ℕ). 2 * z) (mul_comm W H))))
    where
      at_most : (S : Bool) → suc (cond S 1 0 * W + E) ≤ 2 * W
      at_most true = omega arith
      at_most false = omega arith

      room : (q : ℕ) → D < H → q * H + D < suc q * H
      room q d = omega (arith, suc-mul q H)

-- ---- the laws
module _ (f : Format) where
  abbrev W : ℕ
  W = suc (ones f)

  hp : 0 < hid f
  hp = pow_pos (prec f - 1)

  wp : 0 < W
  wp = zero-lt-suc (ones f)

  pub of_bits_meets : (n : ℕ) → n < 2 * top f → Encodes (parameters f) n (of_bits f n)
  unfolding of_bits
  of_bits_meets n h =
      let S = leb (top f) n in
      let E = n % top f / hid f in
      let D = n % hid f in
      let l : E < W = (div-lt_iff_lt-mul hp).1 (lt_of_lt_of_le (mod-lt n (mul-pos hp wp)) (le_of_eq (mul_comm (hid f) W))) in
      let E-le = le_of_suc-le-suc l in
      record { sign = S; exponent = E; trailing = D; low = E-le; short = mod-lt n hp; is = number (hid f) W hp wp n h; value = fields_stand f S E D E-le }

  module _ (n : ℕ) (x : Float) (i : T (fits f x)) (h : Encodes (parameters f) n x) where
    below : n < 2 * top f
    below = lt_of_le_of_lt (le_of_eq h.is) (in_width (hid f) W hp wp h.sign h.exponent h.trailing (suc-le-suc_iff.1 h.low) h.short)

    -- a bit string is one value's
    pub of_bits_only : x ≡ of_bits f n
    of_bits_only =
        let k = of_bits_meets n below in
        let q =
        same_fields (hid f) W hp wp h.sign k.sign h.exponent k.exponent h.trailing k.trailing
        (suc-le-suc_iff.1 h.low) (suc-le-suc_iff.1 k.low) h.short k.short (sym h.is ∙ k.is) in
        let v = subst₂ (λ (s : Bool) (e : ℕ). StandsFor (parameters f) s e h.trailing x) q.0 q.1 h.value in
        let u = subst (λ (d : ℕ). StandsFor (parameters f) k.sign k.exponent d x) q.2 v in
        stands_unique f k.sign k.exponent k.trailing x (of_bits f n) i (of_bits-fits f n) u k.value

    -- and a value that is no NaN has one bit string
    pub to_bits_only : T (not (is_nan x)) → n ≡ to_bits f x
    to_bits_only r = sym (ap (to_bits f) of_bits_only ∙ to_bits-of_bits f n below (rw of_bits_only at r))

  pub to_bits_meets : (x : Float) → T (fits f x) → Encodes (parameters f) (to_bits f x) x
  to_bits_meets x i = subst (λ (y : Float). Encodes (parameters f) (to_bits f x) y) (of_bits-to_bits f x i) (of_bits_meets (to_bits f x) (to_bits-lt f x i))
