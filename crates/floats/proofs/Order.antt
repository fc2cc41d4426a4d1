-- The order of floats that are no NaN, by a key: at a scale 2 ^ K that makes the values at hand whole numbers, and a bound B above their sizes,
-- each value has a natural number, and `lt`, `le` and `eq` are <, ≤ and ≡ of these. So a law of the order is a law of natural numbers, for omega.
-- Any signs, both zeros, infinities; nothing is asked of a format. Assumes nothing.
use mathlib.Core.Path.{◌≡◌, refl, sym, ap, ap₂, ◌∙◌}
use mathlib.Core.Logic.{◌⊎◌, inl, inr, ◌≢◌}
use Prim.Native.Nat.{ℕ, suc, ◌+◌, ◌-◌, ◌*◌, ◌^◌, ◌≤◌, ◌<◌}
use native.Mathlib.Nat.{le_of_lt, le_of_eq, le_refl, mul_comm, mul_assoc, mul_left_comm, mul-lt-mul_of_pos_right, lt_of_mul-lt-mul_right}
use native.Mathlib.Nat.{eq_of_mul-eq-mul_right, add-sub_of_le, add-mul, zero-mul, eq-or-lt_of_le}
use native.Mathlib.Omega.{arith}
use mathlib.Core.Bool.{Bool, true, false, not, ◌||◌, beq}
use lib.IntN.{ℤ, pos, negsuc}
use lib.Dec.{T, ltb, eqb, ltb→lt, lt→ltb, nltb→le, eqb→eq, T_not}
use lib.Pow.{pow-add, pow_pos}
use lib.Ieee.{Float, nan, inf, fin, up, down, below, level, lt, eq, le, is_nan}
use lib.Ieee.Scale.{finite}
use lib.Ieee.Fits.{eq→eqb, and_i, and_l, and_r}
use Rattle.lists.proofs.Numbers.{lt_or_le}

pub or_split : (a b : Bool) → T (a || b) → T a ⊎ T b
or_split true b t = inl tt
or_split false b t = inr t

pub or_l : (a b : Bool) → T a → T (a || b)
or_l true b t = tt
or_l false b t = absurd t

pub or_r : (a b : Bool) → T b → T (a || b)
or_r true b t = tt
or_r false b t = t

-- ---- the exponent below zero: down e is 2 ^ depth e
abbrev pub depth : ℤ → ℕ
depth (pos k) = 0
depth (negsuc k) = suc k

pub down_is : (e : ℤ) → down e ≡ 2 ^ depth e
down_is (pos k) = refl
down_is (negsuc k) = refl

-- the size of m * 2 ^ e in units of 2 ^ -K
abbrev pub size_at : ℕ → ℕ → ℤ → ℕ
size_at K m e = m * up e * 2 ^ (K - depth e)

-- ---- cross multiplication against a common unit
swap : (a i j K : ℕ) → i ≤ K → a * 2 ^ j * 2 ^ K ≡ a * 2 ^ (K - i) * 2 ^ (i + j)
swap a i j K h =
    let p : 2 ^ K ≡ 2 ^ i * 2 ^ (K - i) = ap (λ (z : ℕ). 2 ^ z) (sym (add-sub_of_le h)) ∙ pow-add 2 i (K - i) in
    rw (p, pow-add 2 i j) (simp (mul_assoc, mul_comm, mul_left_comm))

-- two numbers in the ratio of two others are in the same order
pub lt_over : (a b x y c d : ℕ) → 0 < c → 0 < d → a * c ≡ x * d → b * c ≡ y * d → a < b → x < y
lt_over a b x y c d C D p q h =
    let k : a * c < b * c = mul-lt-mul_of_pos_right h C in
    lt_of_mul-lt-mul_right d (rw p at (rw q at k))

eq_over : (a b x y c d : ℕ) → 0 < d → a * c ≡ x * d → b * c ≡ y * d → a ≡ b → x ≡ y
eq_over a b x y c d D p q h = eq_of_mul-eq-mul_right d D x y (sym p ∙ ap (λ (z : ℕ). z * c) h ∙ q)

-- ---- the key
abbrev pub off : ℕ → Bool → ℕ → ℕ
off B true x = B - x
off B false x = B + x

abbrev pub key : ℕ → ℕ → Float → ℕ
key K B nan = 0
key K B (inf true) = 0
key K B (inf false) = B + B
key K B (fin s m e) = off B s (size_at K m e)

-- the scale serves x: x is no NaN, a whole number of units, and of a size below B
abbrev pub Serves : ℕ → ℕ → Float → Type 0
Serves K B nan = ⊥
Serves K B (inf s) = 0 < B
Serves K B (fin s m e) = (depth e ≤ K) × (size_at K m e < B)

-- `below` and `level` of four numbers in two equal ratios, by the key
record Ratio (a b x y : ℕ) : Type 0 where
  c : ℕ
  d : ℕ
  C : 0 < c
  D : 0 < d
  p : a * c ≡ x * d
  q : b * c ≡ y * d

-- a cross product over the common unit
pub units_l : (m : ℕ) (e d : ℤ) (K : ℕ) → depth e ≤ K → m * up e * down d * 2 ^ K ≡ size_at K m e * 2 ^ (depth e + depth d)
units_l m e d K h = rw (down_is d) (swap (m * up e) (depth e) (depth d) K h)

pub units_r : (n : ℕ) (e d : ℤ) (K : ℕ) → depth d ≤ K → n * up d * down e * 2 ^ K ≡ size_at K n d * 2 ^ (depth e + depth d)
units_r n e d K k = rw (down_is e) (swap (n * up d) (depth d) (depth e) K k ∙ ap (λ (z : ℕ). size_at K n d * 2 ^ z) (comm (depth d) (depth e)))
  where
    comm : (i j : ℕ) → i + j ≡ j + i
    comm i j = omega arith

ratio : (m : ℕ) (e : ℤ) (n : ℕ) (d : ℤ) (K : ℕ) → depth e ≤ K → depth d ≤ K → Ratio (m * up e * down d) (n * up d * down e) (size_at K m e) (size_at K n d)
ratio m e n d K h k =
    record { c = 2 ^ K; d = 2 ^ (depth e + depth d); C = pow_pos K; D = pow_pos (depth e + depth d); p = units_l m e d K h; q = units_r n e d K k }

module _ (a b x y : ℕ) (r : Ratio a b x y) where
  lt→ : a < b → x < y
  lt→ h = lt_over a b x y r.c r.d r.C r.D r.p r.q h

  lt← : x < y → a < b
  lt← h = lt_over x y a b r.d r.c r.D r.C (sym r.p) (sym r.q) h

  gt→ : b < a → y < x
  gt→ h = lt_over b a y x r.c r.d r.C r.D r.q r.p h

  gt← : y < x → b < a
  gt← h = lt_over y x b a r.d r.c r.D r.C (sym r.q) (sym r.p) h

  eq→ : a ≡ b → x ≡ y
  eq→ h = eq_over a b x y r.c r.d r.D r.p r.q h

  eq← : x ≡ y → a ≡ b
  eq← h = eq_over x y a b r.d r.c r.C (sym r.p) (sym r.q) h

  none→ : a + b ≡ 0 → x + y ≡ 0
  none→ h =
      eq_of_mul-eq-mul_right r.d r.D (x + y) 0 (add-mul x y r.d ∙ ap₂ (λ (u v : ℕ). u + v) (sym r.p) (sym r.q) ∙ sym (add-mul a b r.c)
      ∙ ap (λ (z : ℕ). z * r.c) h ∙ zero-mul r.c ∙ sym (zero-mul r.d))

  none← : x + y ≡ 0 → a + b ≡ 0
  none← h =
      eq_of_mul-eq-mul_right r.c r.C (a + b) 0 (add-mul a b r.c ∙ ap₂ (λ (u v : ℕ). u + v) r.p r.q ∙ sym (add-mul x y r.d)
      ∙ ap (λ (z : ℕ). z * r.d) h ∙ zero-mul r.d ∙ sym (zero-mul r.c))

  below→ : (B : ℕ) (s t : Bool) → x < B → y < B → T (below s a t b) → off B s x < off B t y
  below→ B false false X Y h = let k = lt→ (ltb→lt a b h) in omega arith
  below→ B false true X Y h = absurd h
  below→ B true false X Y h = let n : x + y ≢ 0 = λ (z : x + y ≡ 0). (let w = none← z in let g = ltb→lt 0 (a + b) h in omega arith) in omega arith
  below→ B true true X Y h = let k = gt→ (ltb→lt b a h) in omega arith

  below← : (B : ℕ) (s t : Bool) → x < B → y < B → off B s x < off B t y → T (below s a t b)
  below← B false false X Y h = lt→ltb a b (lt← (omega arith))
  below← B false true X Y h = omega arith
  below← B true false X Y h = lt→ltb 0 (a + b) (let n : a + b ≢ 0 = λ (z : a + b ≡ 0). (let w = none→ z in omega arith) in omega arith)
  below← B true true X Y h = lt→ltb b a (gt← (omega arith))

  level→ : (B : ℕ) (s t : Bool) → x < B → y < B → T (level s a t b) → off B s x ≡ off B t y
  level→ B s t X Y h = go s t (eq→ (eqb→eq a b (and_l (eqb a b) (beq s t || eqb a 0) h))) (and_r (eqb a b) (beq s t || eqb a 0) h)
    where
      zero_too : a ≡ 0 → x ≡ y → off B false x ≡ off B true y
      zero_too z e = let w = none→ (let b0 : a ≡ b = eq← e in omega arith) in omega arith

      go : (s t : Bool) → x ≡ y → T (beq s t || eqb a 0) → off B s x ≡ off B t y
      go true true e k = omega arith
      go false false e k = omega arith
      go true false e k = let w = zero_too (eqb→eq a 0 k) e in omega arith
      go false true e k = zero_too (eqb→eq a 0 k) e

  level← : (B : ℕ) (s t : Bool) → x < B → y < B → off B s x ≡ off B t y → T (level s a t b)
  level← B s t X Y h = go s t h
    where
      zeros : x ≡ 0 → y ≡ 0 → a ≡ 0
      zeros p q = let w = none← (omega arith) in omega arith

      go : (s t : Bool) → off B s x ≡ off B t y → T (level s a t b)
      go true true k = and_i (eqb a b) true (eq→eqb (eq← (omega arith))) tt
      go false false k = and_i (eqb a b) true (eq→eqb (eq← (omega arith))) tt
      go true false k = and_i (eqb a b) (eqb a 0) (eq→eqb (eq← (omega arith))) (eq→eqb (zeros (omega arith) (omega arith)))
      go false true k = and_i (eqb a b) (eqb a 0) (eq→eqb (eq← (omega arith))) (eq→eqb (zeros (omega arith) (omega arith)))

-- ---- `lt`, `eq` and `le` are the order of the keys
module _ (K B : ℕ) where
  pub lt→key : (x y : Float) → Serves K B x → Serves K B y → T (lt x y) → key K B x < key K B y
  unfolding lt
  lt→key nan y p q h = absurd p
  lt→key (inf true) nan p q h = absurd q
  lt→key (inf true) (inf true) p q h = absurd h
  lt→key (inf true) (inf false) p q h = omega arith
  lt→key (inf true) (fin true n d) p q h = omega arith
  lt→key (inf true) (fin false n d) p q h = omega arith
  lt→key (inf false) nan p q h = absurd q
  lt→key (inf false) (inf t) p q h = absurd h
  lt→key (inf false) (fin t n d) p q h = absurd h
  lt→key (fin s m e) nan p q h = absurd q
  lt→key (fin s m e) (inf true) p q h = absurd h
  lt→key (fin true m e) (inf false) p q h = omega arith
  lt→key (fin false m e) (inf false) p q h = omega arith
  lt→key (fin s m e) (fin t n d) p q h =
      below→ (m * up e * down d) (n * up d * down e) (size_at K m e) (size_at K n d) (ratio m e n d K p.0 q.0) B s t p.1 q.1 h

  pub key→lt : (x y : Float) → Serves K B x → Serves K B y → key K B x < key K B y → T (lt x y)
  unfolding lt
  key→lt nan y p q h = absurd p
  key→lt (inf true) nan p q h = absurd q
  key→lt (inf true) (inf true) p q h = omega arith
  key→lt (inf true) (inf false) p q h = tt
  key→lt (inf true) (fin t n d) p q h = tt
  key→lt (inf false) nan p q h = absurd q
  key→lt (inf false) (inf true) p q h = omega arith
  key→lt (inf false) (inf false) p q h = omega arith
  key→lt (inf false) (fin true n d) p q h = omega arith
  key→lt (inf false) (fin false n d) p q h = omega arith
  key→lt (fin s m e) nan p q h = absurd q
  key→lt (fin true m e) (inf true) p q h = omega arith
  key→lt (fin false m e) (inf true) p q h = omega arith
  key→lt (fin s m e) (inf false) p q h = tt
  key→lt (fin s m e) (fin t n d) p q h =
      below← (m * up e * down d) (n * up d * down e) (size_at K m e) (size_at K n d) (ratio m e n d K p.0 q.0) B s t p.1 q.1 h

  pub eq→key : (x y : Float) → Serves K B x → Serves K B y → T (eq x y) → key K B x ≡ key K B y
  unfolding eq
  eq→key nan y p q h = absurd p
  eq→key (inf s) nan p q h = absurd q
  eq→key (inf true) (inf true) p q h = refl
  eq→key (inf true) (inf false) p q h = absurd h
  eq→key (inf false) (inf true) p q h = absurd h
  eq→key (inf false) (inf false) p q h = refl
  eq→key (inf s) (fin t n d) p q h = absurd h
  eq→key (fin s m e) nan p q h = absurd q
  eq→key (fin s m e) (inf t) p q h = absurd h
  eq→key (fin s m e) (fin t n d) p q h =
      level→ (m * up e * down d) (n * up d * down e) (size_at K m e) (size_at K n d) (ratio m e n d K p.0 q.0) B s t p.1 q.1 h

  pub key→eq : (x y : Float) → Serves K B x → Serves K B y → key K B x ≡ key K B y → T (eq x y)
  unfolding eq
  key→eq nan y p q h = absurd p
  key→eq (inf s) nan p q h = absurd q
  key→eq (inf true) (inf true) p q h = tt
  key→eq (inf true) (inf false) p q h = omega arith
  key→eq (inf false) (inf true) p q h = omega arith
  key→eq (inf false) (inf false) p q h = tt
  key→eq (inf true) (fin true n d) p q h = omega arith
  key→eq (inf true) (fin false n d) p q h = omega arith
  key→eq (inf false) (fin true n d) p q h = omega arith
  key→eq (inf false) (fin false n d) p q h = omega arith
  key→eq (fin s m e) nan p q h = absurd q
  key→eq (fin true m e) (inf true) p q h = omega arith
  key→eq (fin false m e) (inf true) p q h = omega arith
  key→eq (fin true m e) (inf false) p q h = omega arith
  key→eq (fin false m e) (inf false) p q h = omega arith
  key→eq (fin s m e) (fin t n d) p q h =
      level← (m * up e * down d) (n * up d * down e) (size_at K m e) (size_at K n d) (ratio m e n d K p.0 q.0) B s t p.1 q.1 h

  pub le→key : (x y : Float) → Serves K B x → Serves K B y → T (le x y) → key K B x ≤ key K B y
  unfolding le
  le→key x y p q h = elim (or_split (lt x y) (eq x y) h) [ inl l ↦ le_of_lt (lt→key x y p q l) | inr e ↦ le_of_eq (eq→key x y p q e) ]

  pub key→le : (x y : Float) → Serves K B x → Serves K B y → key K B x ≤ key K B y → T (le x y)
  unfolding le
  key→le x y p q h = elim (eq-or-lt_of_le h) [ inl e ↦ or_r (lt x y) (eq x y) (key→eq x y p q e) | inr l ↦ or_l (lt x y) (eq x y) (key→lt x y p q l) ]

-- ---- a scale that serves three values
abbrev pub depth_of : Float → ℕ
depth_of nan = 0
depth_of (inf s) = 0
depth_of (fin s m e) = depth e

abbrev pub size_of : ℕ → Float → ℕ
size_of K nan = 0
size_of K (inf s) = 0
size_of K (fin s m e) = size_at K m e

pub serves : (K B : ℕ) (x : Float) → T (not (is_nan x)) → depth_of x ≤ K → size_of K x < B → Serves K B x
unfolding is_nan
serves K B nan n d z = n
serves K B (inf s) n d z = z
serves K B (fin s m e) n d z = (d, z)

-- the scale for x, y and z
abbrev unit_of : Float → Float → Float → ℕ
unit_of x y z = depth_of x + depth_of y + depth_of z

abbrev bound_of : Float → Float → Float → ℕ
bound_of x y z = suc (size_of (unit_of x y z) x + size_of (unit_of x y z) y + size_of (unit_of x y z) z)

-- ---- no NaN compares
pub lt_l : (x y : Float) → T (lt x y) → T (not (is_nan x))
unfolding lt is_nan
lt_l nan y h = h
lt_l (inf s) y h = tt
lt_l (fin s m e) y h = tt

pub lt_r : (x y : Float) → T (lt x y) → T (not (is_nan y))
unfolding lt is_nan
lt_r nan y h = absurd h
lt_r (inf s) nan h = h
lt_r (inf s) (inf t) h = tt
lt_r (inf s) (fin t n d) h = tt
lt_r (fin s m e) nan h = h
lt_r (fin s m e) (inf t) h = tt
lt_r (fin s m e) (fin t n d) h = tt

pub eq_l : (x y : Float) → T (eq x y) → T (not (is_nan x))
unfolding eq is_nan
eq_l nan y h = h
eq_l (inf s) y h = tt
eq_l (fin s m e) y h = tt

pub eq_r : (x y : Float) → T (eq x y) → T (not (is_nan y))
unfolding eq is_nan
eq_r nan y h = absurd h
eq_r (inf s) nan h = h
eq_r (inf s) (inf t) h = tt
eq_r (inf s) (fin t n d) h = tt
eq_r (fin s m e) nan h = h
eq_r (fin s m e) (inf t) h = tt
eq_r (fin s m e) (fin t n d) h = tt

pub le_l : (x y : Float) → T (le x y) → T (not (is_nan x))
unfolding le
le_l x y h = elim (or_split (lt x y) (eq x y) h) [ inl l ↦ lt_l x y l | inr e ↦ eq_l x y e ]

pub le_r : (x y : Float) → T (le x y) → T (not (is_nan y))
unfolding le
le_r x y h = elim (or_split (lt x y) (eq x y) h) [ inl l ↦ lt_r x y l | inr e ↦ eq_r x y e ]

-- ---- the laws
module _ (x y z : Float) where
  abbrev S : Float → Type 0
  S = Serves (unit_of x y z) (bound_of x y z)

  abbrev K : ℕ
  K = unit_of x y z

  abbrev B : ℕ
  B = bound_of x y z

  sx : T (not (is_nan x)) → S x
  sx n = serves (unit_of x y z) (bound_of x y z) x n (omega arith) (omega arith)

  sy : T (not (is_nan y)) → S y
  sy n = serves (unit_of x y z) (bound_of x y z) y n (omega arith) (omega arith)

  sz : T (not (is_nan z)) → S z
  sz n = serves (unit_of x y z) (bound_of x y z) z n (omega arith) (omega arith)

  pub le_le : T (le x y) → T (le y z) → T (le x z)
  le_le h g =
      let p = sx (le_l x y h) in let q = sy (le_r x y h) in let r = sz (le_r y z g) in
      key→le K B x z p r (omega (arith, le→key K B x y p q h, le→key K B y z q r g))

  pub lt_le : T (lt x y) → T (le y z) → T (lt x z)
  lt_le h g =
      let p = sx (lt_l x y h) in let q = sy (lt_r x y h) in let r = sz (le_r y z g) in
      key→lt K B x z p r (omega (arith, lt→key K B x y p q h, le→key K B y z q r g))

  pub le_lt : T (le x y) → T (lt y z) → T (lt x z)
  le_lt h g =
      let p = sx (le_l x y h) in let q = sy (le_r x y h) in let r = sz (lt_r y z g) in
      key→lt K B x z p r (omega (arith, le→key K B x y p q h, lt→key K B y z q r g))

  pub lt_lt : T (lt x y) → T (lt y z) → T (lt x z)
  unfolding le
  lt_lt h g = lt_le h (or_l (lt y z) (eq y z) g)

  pub eq_eq : T (eq x y) → T (eq y z) → T (eq x z)
  eq_eq h g =
      let p = sx (eq_l x y h) in let q = sy (eq_r x y h) in let r = sz (eq_r y z g) in
      key→eq K B x z p r (eq→key K B x y p q h ∙ eq→key K B y z q r g)

module _ (x y : Float) where
  abbrev K₂ : ℕ
  K₂ = unit_of x y x

  abbrev B₂ : ℕ
  B₂ = bound_of x y x

  -- of two values that are no NaN exactly one of x < y, y ≤ x holds
  pub not_lt : T (not (is_nan x)) → T (not (is_nan y)) → T (not (lt x y)) → T (le y x)
  not_lt n m h =
      let p = sx x y x n in let q = sy x y x m in
      key→le K₂ B₂ y x q p (elim (lt_or_le (key K₂ B₂ x) (key K₂ B₂ y)) [ inl l ↦ absurd (T_not (lt x y) h (key→lt K₂ B₂ x y p q l)) | inr l ↦ l ])

  pub not_le : T (not (is_nan x)) → T (not (is_nan y)) → T (not (le x y)) → T (lt y x)
  not_le n m h =
      let p = sx x y x n in let q = sy x y x m in
      key→lt K₂ B₂ y x q p (elim (lt_or_le (key K₂ B₂ y) (key K₂ B₂ x)) [ inl l ↦ l | inr l ↦ absurd (T_not (le x y) h (key→le K₂ B₂ x y p q l)) ])

  pub lt_not_le : T (lt x y) → T (le y x) → ⊥
  lt_not_le h g =
      let p = sx x y x (lt_l x y h) in let q = sy x y x (lt_r x y h) in
      omega (arith, lt→key K₂ B₂ x y p q h, le→key K₂ B₂ y x q p g)

  pub lt→le : T (lt x y) → T (le x y)
  unfolding le
  lt→le h = or_l (lt x y) (eq x y) h

  pub eq→le : T (eq x y) → T (le x y)
  unfolding le
  eq→le h = or_r (lt x y) (eq x y) h

  pub eq_sym : T (eq x y) → T (eq y x)
  eq_sym h =
      let p = sx x y x (eq_l x y h) in let q = sy x y x (eq_r x y h) in
      key→eq K₂ B₂ y x q p (sym (eq→key K₂ B₂ x y p q h))

  pub antisymm : T (le x y) → T (le y x) → T (eq x y)
  antisymm h g =
      let p = sx x y x (le_l x y h) in let q = sy x y x (le_r x y h) in
      key→eq K₂ B₂ x y p q (omega (arith, le→key K₂ B₂ x y p q h, le→key K₂ B₂ y x q p g))

pub le_refl_float : (x : Float) → T (not (is_nan x)) → T (le x x)
le_refl_float x n = key→le (K₂ x x) (B₂ x x) x x (sx x x x n) (sx x x x n) (le_refl (key (K₂ x x) (B₂ x x) x))

pub eq_refl_float : (x : Float) → T (not (is_nan x)) → T (eq x x)
eq_refl_float x n = antisymm x x (le_refl_float x n) (le_refl_float x n)

pub lt_irrefl_float : (x : Float) → T (lt x x) → ⊥
lt_irrefl_float x h = lt_not_le x x h (lt→le x x h)

-- of two values that are no NaN one is at most the other
pub total : (x y : Float) → T (not (is_nan x)) → T (not (is_nan y)) → T (le x y) ⊎ T (le y x)
total x y n m = go (le x y) (λ (h : T (not (le x y))). lt→le y x (not_le x y n m h))
  where
    go : (b : Bool) → (T (not b) → T (le y x)) → T b ⊎ T (le y x)
    go true f = inl tt
    go false f = inr (f tt)

pub zero_times : (u v : ℕ) → 0 * u * v ≡ 0
zero_times u v = ap (λ (z : ℕ). z * v) (zero-mul u) ∙ zero-mul v

-- zeros of either sign
pub zeros_equal : (s t : Bool) (e d : ℤ) → T (eq (fin s 0 e) (fin t 0 d))
unfolding eq
zeros_equal s t e d =
    let a = 0 * up e * down d in
    let b = 0 * up d * down e in
    and_i (eqb a b) (beq s t || eqb a 0) (eq→eqb (zero_times (up e) (down d) ∙ sym (zero_times (up d) (down e))))
    (or_r (beq s t) (eqb a 0) (eq→eqb (zero_times (up e) (down d))))

-- ---- finite values
pub finite_real : (x : Float) → T (finite x) → T (not (is_nan x))
unfolding is_nan
finite_real (fin s m e) p = tt
finite_real nan p = elim p [ ]
finite_real (inf _) p = elim p [ ]

-- between two finite values lie finite values
pub between : (lo x hi : Float) → T (finite lo) → T (finite hi) → T (le lo x) → T (le x hi) → T (finite x)
unfolding le
between (fin s m e) nan (fin t n d) p q h k = h
between (fin s m e) (inf true) (fin t n d) p q h k = h
between (fin s m e) (inf false) (fin t n d) p q h k = k
between (fin s m e) (fin u l g) (fin t n d) p q h k = tt
between nan _ hi p q h k = elim p [ ]
between (inf _) _ hi p q h k = elim p [ ]
between (fin s m e) nan nan p q h k = elim q [ ]
between (fin s m e) nan (inf _) p q h k = elim q [ ]
between (fin s m e) (inf false) nan p q h k = elim q [ ]
between (fin s m e) (inf false) (inf _) p q h k = elim q [ ]
between (fin s m e) (inf true) nan p q h k = elim q [ ]
between (fin s m e) (inf true) (inf _) p q h k = elim q [ ]
between (fin s m e) (fin u l g) nan p q h k = elim q [ ]
between (fin s m e) (fin u l g) (inf _) p q h k = elim q [ ]
