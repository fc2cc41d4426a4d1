-- The definitions of `Rounding` and `Operations` leave no choice: two results that fit the format and meet one are the same float, and so it is the library's.
-- For both formats. Assumes nothing.
use mathlib.Core.Path.{◌≡◌, refl, sym, ap, ◌∙◌, subst, subst₂}
use mathlib.Core.Logic.{◌⊎◌, inl, inr}
use Prim.Native.Nat.{ℕ, zero, suc, ◌+◌, ◌-◌, ◌*◌, ◌%◌, ◌^◌, ◌≤◌, ◌<◌, zero-le}
use native.Mathlib.Nat.{le_of_eq, le_trans, le_refl, le_antisymm, lt_of_le_of_lt, not-le_of_lt, mul_comm, mul_assoc, mul-one, mul-le-mul_right}
use native.Mathlib.Nat.{mul-lt-mul_of_pos_right, eq_of_mul-eq-mul_right, eq-or-lt_of_le, pow-suc, pow-succ', mul-pos, zero-lt-suc}
use native.Mathlib.Omega.{arith}
use mathlib.Core.Bool.{Bool, true, false, ◌&&◌}
use lib.Dec.{T}
use lib.Pow.{pow-add, pow_pos, shl_lt}
use lib.Ieee.{Float, nan, inf, fin, Format, prec, low, up, down, unlike, fits, add, sub, mul, div}
use lib.Ieee.Exact.{HasValue}
use lib.Ieee.Fits.{two, two-le_pos, up_pos, down_pos, add-fits, sub-fits, mul-fits, div-fits}
use Rattle.floats.proofs.Same.{value→same}
use Rattle.floats.proofs.OperationsLaw.{add_meets, sub_meets, mul_meets, div_meets}
use Rattle.floats.specs.Signed.{positive, negative}
use Rattle.floats.specs.Operations.{Sum, Adds, opposite, Subtracts, Multiplies, Divides}
use Rattle.lists.proofs.Numbers.{lt_or_le}
use Rattle.floats.proofs.Neighbours.{apart, power_lt}
use Rattle.floats.specs.Formats.{Binary, span, parameters}
use Rattle.floats.specs.Rounding.{Datum, Even, far, Nearest, limit, Rounds}

back : (i j : ℕ) → i < j → j ≡ suc (j - suc i) + i
back i j h = omega arith

-- D * 2 ^ p with p above q is an even number of 2 ^ q
evens : (D p q : ℕ) → q < p → D * 2 ^ p ≡ D * 2 ^ (p - suc q) * 2 * 2 ^ q
evens D p q h =
    ap (λ (z : ℕ). D * 2 ^ z) (back q p h) ∙ ap (λ (z : ℕ). D * z) (pow-add 2 (suc (p - suc q)) q) ∙ sym (mul_assoc D (2 ^ suc (p - suc q)) (2 ^ q))
    ∙ ap (λ (z : ℕ). z * 2 ^ q) (ap (λ (z : ℕ). D * z) (pow-succ' 2 (p - suc q) ∙ mul_comm 2 (2 ^ (p - suc q))) ∙ sym (mul_assoc D (2 ^ (p - suc q)) 2))

odd_even : (C t : ℕ) → C % 2 ≡ 0 → suc C ≡ t * 2 → ⊥
odd_even C t e h = omega arith

odd_even' : (C D : ℕ) → C % 2 ≡ 0 → D % 2 ≡ 0 → suc C ≡ D → ⊥
odd_even' C D e f h = omega arith

-- P is the least number of more than p digits, and h half of it
too_many : (P h w t D : ℕ) → P ≡ h * 2 → h ≤ w → suc w * (t * 2) ≡ D → 0 < t → D < P → ⊥
too_many P h w t D p g e T' l =
    not-le_of_lt l (le_trans (twice P h w p g) (le_trans (le_of_eq (mul_comm 2 (suc w))) (le_trans (mul_le (suc w) 2 (t * 2) (more t T')) (le_of_eq e))))
  where
    twice : (P h w : ℕ) → P ≡ h * 2 → h ≤ w → P ≤ 2 * suc w
    twice P h w p g = omega arith

    more : (t : ℕ) → 0 < t → 2 ≤ t * 2
    more t h = omega arith

    mul_le : (a b c : ℕ) → b ≤ c → a * b ≤ a * c
    mul_le a b c h = le_trans (le_of_eq (mul_comm a b)) (le_trans (mul-le-mul_right a h) (le_of_eq (mul_comm c a)))

-- 2 ^ p is twice 2 ^ (p - 1)
doubled : (f : Format) → 2 ^ prec f ≡ 2 ^ (prec f - 1) * 2
doubled f = ap (λ (z : ℕ). 2 ^ z) (omega (arith, two f)) ∙ pow-suc 2 (prec f - 1)

-- the next datum after an even one is not even
next_odd : (f : Format) (n m : ℕ) (e : Even (parameters f) n) → suc e.digits * 2 ^ e.power ≡ m → Even (parameters f) m → ⊥
next_odd f n m e h e' =
    let C = e.digits in
    let q = e.power in
    let D = e'.digits in
    let p = e'.power in
    let k : suc C * 2 ^ q ≡ D * 2 ^ p = h ∙ e'.is in
    elim (lt_or_le q p) [
      | inl l ↦ odd_even C (D * 2 ^ (p - suc q)) e.even (eq_of_mul-eq-mul_right (2 ^ q) (pow_pos q) (suc C) (D * 2 ^ (p - suc q) * 2) (k ∙ evens D p q l))
      | inr l ↦
          elim (eq-or-lt_of_le l) [
            | inl z ↦ odd_even' C D e.even e'.even (eq_of_mul-eq-mul_right (2 ^ q) (pow_pos q) (suc C) D (k ∙ ap (λ (i : ℕ). D * 2 ^ i) z))
            | inr g ↦
                elim e.full [
                  | inl w ↦
                      let t = 2 ^ (q - suc p) in
                      let x : suc C * t * 2 ≡ D = eq_of_mul-eq-mul_right (2 ^ p) (pow_pos p) (suc C * t * 2) D (sym (evens (suc C) q p g) ∙ k) in
                      too_many (2 ^ prec f) (2 ^ (prec f - 1)) C t D (doubled f) w (sym (mul_assoc (suc C) t 2) ∙ x) (pow_pos (q - suc p)) e'.short
                  | inr z ↦ not-le_of_lt g (subst (λ (i : ℕ). i ≤ p) (sym z) zero-le)
                ]
          ]
    ]

-- below an even datum's successor there is no other datum
module _ (f : Format) (n m : ℕ) (e : Even (parameters f) n) (d : Datum (parameters f) n) (d' : Datum (parameters f) m) (l : n < m) where
  abbrev S : ℕ
  S = suc e.digits * 2 ^ e.power

  up_to : S ≤ m
  up_to = elim e.full [
    | inl g ↦ apart_from (apart (prec f) (two-le_pos (prec f) (two f)) d'.digits d'.power e.digits e.power d'.short g)
    | inr z ↦ units z
  ]
    where
      apart_from : (d'.digits * 2 ^ d'.power ≤ e.digits * 2 ^ e.power) ⊎ (S ≤ d'.digits * 2 ^ d'.power) → S ≤ m
      apart_from (inl h) = absurd (not-le_of_lt l (le_trans (le_of_eq d'.is) (le_trans h (le_of_eq (sym e.is)))))
      apart_from (inr h) = le_trans h (le_of_eq (sym d'.is))

      units : e.power ≡ 0 → S ≤ m
      units z =
          let x : S ≡ suc e.digits = ap (λ (i : ℕ). suc e.digits * 2 ^ i) z ∙ mul-one (suc e.digits) in
          let y : n ≡ e.digits = e.is ∙ ap (λ (i : ℕ). e.digits * 2 ^ i) z ∙ mul-one e.digits in
          le_trans (le_of_eq x) (subst (λ (i : ℕ). suc i ≤ m) y l)

  S-datum : Datum (parameters f) S
  S-datum =
      let short = room (2 ^ prec f) (2 ^ (prec f - 1)) e.digits (doubled f) e.short e.even in
      record { digits = suc e.digits; power = e.power; short = short; low = few e.full; is = refl }
    where
      room : (P h C : ℕ) → P ≡ h * 2 → C < P → C % 2 ≡ 0 → suc C < P
      room P h C p l k = omega arith

      few : (2 ^ (prec f - 1) ≤ e.digits) ⊎ (e.power ≡ 0) → e.power ≤ span (parameters f)
      few (inl g) =
          let p = prec f in
          let up : 2 ^ (p - 1 + e.power) ≤ n = rw (pow-add 2 (p - 1) e.power, e.is) (mul-le-mul_right (2 ^ e.power) g) in
          let down : n < 2 ^ (p + d.power) = lt_of_le_of_lt (le_of_eq d.is) (shl_lt p d.power d.short) in
          small e.power d.power d.low (power_lt (p - 1 + e.power) (p + d.power) (lt_of_le_of_lt up down))
        where
          small : (q i : ℕ) → i ≤ span (parameters f) → prec f - 1 + q < prec f + i → q ≤ span (parameters f)
          small q i h k = omega (arith, two f)
      few (inr z) = le_trans (le_of_eq z) zero-le

middle : (A x y z : ℕ) → A - x + (x - A) ≡ A - z + (z - A) → A - x + (x - A) ≤ A - y + (y - A) → x < y → y < z → ⊥
middle A x y z e h p q = omega arith

-- ---- two nearest data are one
module _ (f : Format) (a c : ℕ) (C : 0 < c) where
  abbrev b : Binary
  b = parameters f

  none_less : (n m : ℕ) → Datum b n → Datum b m → Even b n → Even b m
      → ((k : ℕ) → Datum b k → far b a c n ≤ far b a c k) → far b a c n ≡ far b a c m → n < m → ⊥
  none_less n m d d' e e' near same l =
      elim (eq-or-lt_of_le (up_to f n m e d d' l)) [
        | inl z ↦ next_odd f n m e z e'
        | inr g ↦
            let s = S f n m e d d' l in
            let up = mul-lt-mul_of_pos_right (after n m e) C in
            middle (a * 2 ^ low f) (n * c) (s * c) (m * c) same (near s (S-datum f n m e d d' l)) up (mul-lt-mul_of_pos_right g C)
      ]
    where
      after : (n m : ℕ) (e : Even b n) → n < suc e.digits * 2 ^ e.power
      after n m e = lt_of_le_of_lt (le_of_eq e.is) (mul-lt-mul_of_pos_right (le_refl (suc e.digits)) (pow_pos e.power))

  pub nearest_unique : (s : Bool) (r r' : Float) (N : Nearest b s a c r) (M : Nearest b s a c r') → N.n ≡ M.n
  nearest_unique s r r' N M =
      let same : far b a c N.n ≡ far b a c M.n = le_antisymm (N.nearest M.n M.datum) (M.nearest N.n N.datum) in
      elim (N.tie M.n M.datum same) [
        | inl z ↦ z
        | inr e ↦
            elim (M.tie N.n N.datum (sym same)) [
              | inl z ↦ sym z
              | inr g ↦
                  elim (lt_or_le N.n M.n) [
                    | inl l ↦ absurd (none_less N.n M.n N.datum M.datum e g N.nearest same l)
                    | inr l ↦
                        elim (eq-or-lt_of_le l) [
                          | inl z ↦ sym z
                          | inr i ↦ absurd (none_less M.n N.n M.datum N.datum g e M.nearest (sym same) i)
                        ]
                  ]
            ]
      ]

-- ±a + ±b is one number
sum_unique : (s : Bool) (a : ℕ) (t : Bool) (b : ℕ) (u : Bool) (n : ℕ) (v : Bool) (m : ℕ) → Sum s a t b u n → Sum s a t b v m → (u ≡ v) × (n ≡ m)
sum_unique s a t b u n v m h k =
    go (positive s a + positive t b) (negative s a + negative t b) (s && t) u v h.exact k.exact h.zero k.zero
  where
    go : (P N : ℕ) (w u v : Bool) → P + negative u n ≡ N + positive u n → P + negative v m ≡ N + positive v m
        → (n ≡ 0 → u ≡ w) → (m ≡ 0 → v ≡ w) → (u ≡ v) × (n ≡ m)
    go P N w true true p q i j = (refl, omega arith)
    go P N w true false p q i j = (i (omega arith) ∙ sym (j (omega arith)), omega arith)
    go P N w false true p q i j = (i (omega arith) ∙ sym (j (omega arith)), omega arith)
    go P N w false false p q i j = (refl, omega arith)

-- ---- results that fit
module _ (f : Format) where
  abbrev Fits : Float → Type 0
  Fits r = T (fits f r)

  pub rounds_unique : (s : Bool) (a c : ℕ) (r r' : Float) → 0 < c → Fits r → Fits r' → Rounds (parameters f) s a c r → Rounds (parameters f) s a c r' → r ≡ r'
  rounds_unique s a c r r' C i j h k = elim (lt_or_le (a * 2 ^ prec f) (limit (parameters f) * c)) [
    | inl l ↦ near (h.under l) (k.under l)
    | inr l ↦ h.over l ∙ sym (k.over l)
  ]
    where
      near : Nearest (parameters f) s a c r → Nearest (parameters f) s a c r' → r ≡ r'
      near N M =
          let v : HasValue r' s N.n (2 ^ low f) = rw (nearest_unique f a c C s r r' N M) M.value in
          value→same f s N.n (2 ^ low f) r r' (pow_pos (low f)) i j N.value v

  pub adds_unique : (x y r r' : Float) → Fits r → Fits r' → Adds (parameters f) x y r → Adds (parameters f) x y r' → r ≡ r'
  adds_unique nan y r r' i j h k = h ∙ sym k
  adds_unique (inf s) nan r r' i j h k = h ∙ sym k
  adds_unique (inf true) (inf true) r r' i j h k = h ∙ sym k
  adds_unique (inf true) (inf false) r r' i j h k = h ∙ sym k
  adds_unique (inf false) (inf true) r r' i j h k = h ∙ sym k
  adds_unique (inf false) (inf false) r r' i j h k = h ∙ sym k
  adds_unique (inf s) (fin t n d) r r' i j h k = h ∙ sym k
  adds_unique (fin s m e) nan r r' i j h k = h ∙ sym k
  adds_unique (fin s m e) (inf t) r r' i j h k = h ∙ sym k
  adds_unique (fin s m e) (fin t n d) r r' i j h k =
      let c = down e * down d in
      let q = sum_unique s (m * up e * down d) t (n * up d * down e) h.0 h.1 k.0 k.1 h.2 k.2 in
      let h' = subst₂ (λ (u : Bool) (n : ℕ). Rounds (parameters f) u n c r) q.0 q.1 h.3 in
      rounds_unique k.0 k.1 c r r' (mul-pos (down_pos e) (down_pos d)) i j h' k.3

  pub subtracts_unique : (x y r r' : Float) → Fits r → Fits r' → Subtracts (parameters f) x y r → Subtracts (parameters f) x y r' → r ≡ r'
  subtracts_unique x y r r' i j h k = adds_unique x (opposite y) r r' i j h k

  pub multiplies_unique : (x y r r' : Float) → Fits r → Fits r' → Multiplies (parameters f) x y r → Multiplies (parameters f) x y r' → r ≡ r'
  multiplies_unique nan y r r' i j h k = h ∙ sym k
  multiplies_unique (inf s) nan r r' i j h k = h ∙ sym k
  multiplies_unique (inf s) (inf t) r r' i j h k = h ∙ sym k
  multiplies_unique (inf s) (fin t zero d) r r' i j h k = h ∙ sym k
  multiplies_unique (inf s) (fin t (suc n) d) r r' i j h k = h ∙ sym k
  multiplies_unique (fin s m e) nan r r' i j h k = h ∙ sym k
  multiplies_unique (fin s zero e) (inf t) r r' i j h k = h ∙ sym k
  multiplies_unique (fin s (suc m) e) (inf t) r r' i j h k = h ∙ sym k
  multiplies_unique (fin s m e) (fin t n d) r r' i j h k =
      rounds_unique (unlike s t) (m * up e * (n * up d)) (down e * down d) r r' (mul-pos (down_pos e) (down_pos d)) i j h k

  pub divides_unique : (x y r r' : Float) → Fits r → Fits r' → Divides (parameters f) x y r → Divides (parameters f) x y r' → r ≡ r'
  divides_unique nan y r r' i j h k = h ∙ sym k
  divides_unique (inf s) nan r r' i j h k = h ∙ sym k
  divides_unique (inf s) (inf t) r r' i j h k = h ∙ sym k
  divides_unique (inf s) (fin t n d) r r' i j h k = h ∙ sym k
  divides_unique (fin s m e) nan r r' i j h k = h ∙ sym k
  divides_unique (fin s m e) (inf t) r r' i j h k = value→same f (unlike s t) 0 1 r r' (zero-lt-suc 0) i j h k
  divides_unique (fin s zero e) (fin t zero d) r r' i j h k = h ∙ sym k
  divides_unique (fin s (suc m) e) (fin t zero d) r r' i j h k = h ∙ sym k
  divides_unique (fin s m e) (fin t (suc n) d) r r' i j h k =
      rounds_unique (unlike s t) (m * up e * down d) (suc n * up d * down e) r r' (mul-pos (mul-pos (zero-lt-suc n) (up_pos d)) (down_pos e)) i j h k

  -- ---- so the library's result is the only one
  pub adds_only : (x y r : Float) → Fits r → Adds (parameters f) x y r → r ≡ add f x y
  adds_only x y r i h = adds_unique x y r (add f x y) i (add-fits f x y) h (add_meets f x y)

  pub subtracts_only : (x y r : Float) → Fits r → Subtracts (parameters f) x y r → r ≡ sub f x y
  subtracts_only x y r i h = subtracts_unique x y r (sub f x y) i (sub-fits f x y) h (sub_meets f x y)

  pub multiplies_only : (x y r : Float) → Fits r → Multiplies (parameters f) x y r → r ≡ mul f x y
  multiplies_only x y r i h = multiplies_unique x y r (mul f x y) i (mul-fits f x y) h (mul_meets f x y)

  pub divides_only : (x y r : Float) → Fits r → Divides (parameters f) x y r → r ≡ div f x y
  divides_only x y r i h = divides_unique x y r (div f x y) i (div-fits f x y) h (div_meets f x y)
