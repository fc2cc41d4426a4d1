-- `round f` meets the definition of `Rounding`, for both formats. Assumes nothing.
use mathlib.Core.Path.{◌≡◌, refl, sym, ap, ap₂, ◌∙◌, subst}
use mathlib.Core.Logic.{◌⊎◌, inl, inr}
use Prim.Native.Nat.{ℕ, zero, suc, ◌+◌, ◌-◌, ◌*◌, ◌/◌, ◌%◌, ◌^◌, ◌≤◌, ◌<◌, zero-le, compare, Ordering}
use native.Mathlib.Nat.{le_of_eq, le_of_lt, le_trans, le_refl, lt_of_lt_of_le, lt_of_le_of_lt, lt_irrefl, mul_comm, mul_assoc, mul_left_comm, mul_right_comm}
use native.Mathlib.Nat.{mul-one, mul-pos, mul-sub, mul-le-mul_right, mul-mod_left, mod-lt, div-add-mod', div-div-eq-div-mul, le-div_iff_mul-le, suc-mul}
use native.Mathlib.Nat.{pow-suc, eq-or-lt_of_le, mul-lt-mul_of_pos_right, eq_of_mul-eq-mul_right}
use native.Mathlib.Omega.{arith}
use mathlib.Core.Bool.{Bool, true, false, not}
use lib.Dec.{T, is_le, compare_is_eq, eqb, eqb→eq, eqb_refl, leb→le, nleb→lt}
use lib.Arith.{lt_of_le-ne}
use lib.Pow.{pow-add, pow_pos, pow-lt, ones_lt}
use lib.Ieee.{Float, nan, inf, fin, Format, binary32, binary64, prec, emax, low, size, nearest, units, round, neg, le}
use lib.Ieee.Digits.{size_reaches}
use lib.Ieee.Fits.{kept-lt, nearest-le, round_is, two}
use lib.Ieee.Exact.{HasValue, units_val}
use lib.Ieee.Nearest.{nearest-ge}
use Rattle.lists.proofs.Numbers.{lt_or_le}
use lib.Ieee.Order.{round_mono}
use Rattle.floats.proofs.Neighbours.{apart, power_lt}
use Rattle.floats.proofs.Mono.{round_neg}
use Rattle.floats.proofs.FormatsLaw.{emax-two}
use Rattle.floats.specs.Formats.{Binary, span, parameters}
use Rattle.floats.specs.Rounding.{Datum, Even, Nearest, limit, Rounds}

-- what `compare` says
abbrev Cmp : Ordering → ℕ → ℕ → Type 0
Cmp Ordering.lt a b = a < b
Cmp Ordering.eq a b = a ≡ b
Cmp Ordering.gt a b = b < a

cmp : (a b : ℕ) → Cmp (compare a b) a b
cmp a b = go (compare a b) (leb→le a b) (nleb→lt a b) (eqb→eq a b) (λ (e : a ≡ b). subst (λ (x : ℕ). T (eqb a x)) e (eqb_refl a))
  where
    go : (o : Ordering) → (T (is_le o) → a ≤ b) → (T (not (is_le o)) → b < a) → (T (compare_is_eq o) → a ≡ b) → (a ≡ b → T (compare_is_eq o)) → Cmp o a b
    go Ordering.lt h k e n = lt_of_le-ne (h tt) n
    go Ordering.eq h k e n = e tt
    go Ordering.gt h k e n = k tt

-- ---- A is L + r, below L + u. N is the nearer of L and L + u, and x is none between
abbrev gap : ℕ → ℕ → ℕ
gap A x = A - x + (x - A)

nearer : (A L u r x : ℕ) → L + r ≡ A → r < u → (x ≤ L) ⊎ (L + u ≤ x) → ((r * 2 ≤ u) → gap A L ≤ gap A x) × ((u ≤ r * 2) → gap A (L + u) ≤ gap A x)
nearer A L u r x a b (inl h) = (λ (t : r * 2 ≤ u). omega arith, λ (t : u ≤ r * 2). omega arith)
nearer A L u r x a b (inr h) = (λ (t : r * 2 ≤ u). omega arith, λ (t : u ≤ r * 2). omega arith)

only : (A L u r x : ℕ) → L + r ≡ A → r < u → (x ≤ L) ⊎ (L + u ≤ x)
    → ((r * 2 < u) → gap A L ≡ gap A x → L ≡ x) × ((u < r * 2) → gap A (L + u) ≡ gap A x → L + u ≡ x)
only A L u r x a b (inl h) = (λ (t : r * 2 < u) (e : gap A L ≡ gap A x). omega arith, λ (t : u < r * 2) (e : gap A (L + u) ≡ gap A x). omega arith)
only A L u r x a b (inr h) = (λ (t : r * 2 < u) (e : gap A L ≡ gap A x). omega arith, λ (t : u < r * 2) (e : gap A (L + u) ≡ gap A x). omega arith)

pow_even : (p : ℕ) → 0 < p → 2 ^ p % 2 ≡ 0
pow_even zero h = absurd (lt_irrefl 0 h)
pow_even (suc p) h = ap (λ (x : ℕ). x % 2) (pow-suc 2 p) ∙ mul-mod_left (2 ^ p) 2

module _ (f : Format) where
  abbrev p : ℕ
  p = prec f

  abbrev b : Binary
  b = parameters f

  P : 0 < p
  P = omega (arith, two f)

  -- ---- q * 2 ^ k with at most p digits, or 2 ^ p
  next_power : (k : ℕ) → 2 ^ p * 2 ^ k ≡ 2 ^ (p - 1) * 2 ^ suc k
  next_power k = sym (pow-add 2 p k) ∙ ap (λ (z : ℕ). 2 ^ z) one_more ∙ pow-add 2 (p - 1) (suc k)
    where
      one_more : p + k ≡ p - 1 + suc k
      one_more = omega (arith, two f)

  half_lt : 2 ^ (p - 1) < 2 ^ p
  half_lt = pow-lt (omega (arith, two f))

  even_of : (q k : ℕ) → q ≤ 2 ^ p → (2 ^ (p - 1) ≤ q) ⊎ (k ≡ 0) → q % 2 ≡ 0 → Even b (q * 2 ^ k)
  even_of q k h g e = elim (eq-or-lt_of_le h) [
    | inl t ↦
        record {
          digits = 2 ^ (p - 1);
          power = suc k;
          full = inl (le_refl (2 ^ (p - 1)));
          short = half_lt;
          is = ap (λ (z : ℕ). z * 2 ^ k) t ∙ next_power k;
          even = pow_even (p - 1) (omega (arith, two f));
        }
    | inr l ↦ record { digits = q; power = k; full = g; short = l; is = refl; even = e }
  ]

  datum_of : (q k : ℕ) → q ≤ 2 ^ p → (2 ^ (p - 1) ≤ q) ⊎ (k ≡ 0) → q * 2 ^ k < 2 ^ (low f + suc (emax f)) → Datum b (q * 2 ^ k)
  datum_of q k h g l = elim (eq-or-lt_of_le h) [ inl t ↦ whole t | inr i ↦ record { digits = q; power = k; short = i; low = few g; is = refl } ]
    where
      whole : q ≡ 2 ^ p → Datum b (q * 2 ^ k)
      whole t =
          let top : 2 ^ (p + k) ≡ q * 2 ^ k = pow-add 2 p k ∙ ap (λ (z : ℕ). z * 2 ^ k) (sym t) in
          let few = power_lt (p + k) (low f + suc (emax f)) (lt_of_le_of_lt (le_of_eq top) l) in
          record { digits = 2 ^ (p - 1); power = suc k; short = half_lt; low = omega (arith, two f); is = ap (λ (z : ℕ). z * 2 ^ k) t ∙ next_power k }

      few : (2 ^ (p - 1) ≤ q) ⊎ (k ≡ 0) → k ≤ span b
      few (inl g) =
          let h = power_lt (p - 1 + k) (low f + suc (emax f)) (lt_of_le_of_lt (le_trans (le_of_eq (pow-add 2 (p - 1) k)) (mul-le-mul_right (2 ^ k) g)) l) in
          omega (arith, two f)
      few (inr z) = omega arith

-- ---- the numbers that `round` works with, for A / c units
module _ (f : Format) (A c : ℕ) (C : 0 < c) where
  abbrev d : ℕ
  d = prec f

  abbrev k : ℕ
  k = size (A / c) - d

  abbrev u : ℕ
  u = c * 2 ^ k

  abbrev w : ℕ
  w = A / u

  abbrev q : ℕ
  q = nearest w (compare (A % u * 2) u)

  U : 0 < u
  U = mul-pos C (pow_pos k)

  parts : w * u + A % u ≡ A
  parts = div-add-mod' A u

  rest : A % u < u
  rest = mod-lt A U

  w_lt : w < 2 ^ d
  w_lt = subst (λ (x : ℕ). x < 2 ^ d) (div-div-eq-div-mul A c (2 ^ k)) (kept-lt d (A / c))

  -- where digits are dropped, p are kept
  w_ge : 0 < k → 2 ^ (d - 1) ≤ w
  w_ge h =
      subst (λ (x : ℕ). 2 ^ (d - 1) ≤ x) (div-div-eq-div-mul A c (2 ^ k))
      ((le-div_iff_mul-le (pow_pos k)).1 (le_trans (le_of_eq (sym (pow-add 2 (d - 1) k))) (size_reaches (A / c) (d - 1 + k) (room (size (A / c)) h))))
    where
      room : (z : ℕ) → 0 < z - d → d - 1 + (z - d) < z
      room z h = omega (arith, two f)

  -- each datum lies at or below w * 2 ^ k, or at or above the next
  sides : (m : ℕ) → Datum (parameters f) m → (m ≤ w * 2 ^ k) ⊎ (suc w * 2 ^ k ≤ m)
  sides m x = go k refl w_ge
    where
      go : (j : ℕ) → k ≡ j → (0 < k → 2 ^ (d - 1) ≤ w) → (m ≤ w * 2 ^ k) ⊎ (suc w * 2 ^ k ≤ m)
      go zero e g =
          let one : 2 ^ k ≡ 1 = ap (λ (z : ℕ). 2 ^ z) e in
          let v : w * 2 ^ k ≡ w = ap (λ (z : ℕ). w * z) one ∙ mul-one w in
          let y : suc w * 2 ^ k ≡ suc w = ap (λ (z : ℕ). suc w * z) one ∙ mul-one (suc w) in
          elim (lt_or_le w m) [ inl l ↦ inr (subst (λ (z : ℕ). z ≤ m) (sym y) l) | inr l ↦ inl (subst (λ (z : ℕ). m ≤ z) (sym v) l) ]
      go (suc j) e g = rw x.is (apart d (P f) x.digits x.power w k x.short (g (omega arith)))

  full : (2 ^ (d - 1) ≤ q) ⊎ (k ≡ 0)
  full = elim (eq-or-lt_of_le {n = 0} {m = k} zero-le) [ inl z ↦ inr (sym z) | inr l ↦ inl (le_trans (w_ge l) (nearest-ge w (compare (A % u * 2) u))) ]

  q_le : q ≤ 2 ^ d
  q_le = le_trans (nearest-le w (compare (A % u * 2) u)) w_lt

  -- times c
  over_c : (v : ℕ) → v * 2 ^ k * c ≡ v * u
  over_c v = mul_assoc v (2 ^ k) c ∙ ap (λ (z : ℕ). v * z) (mul_comm (2 ^ k) c)

  next_is : suc w * u ≡ w * u + u
  next_is = suc-mul w u

  sides_c : (m : ℕ) → Datum (parameters f) m → (m * c ≤ w * u) ⊎ (w * u + u ≤ m * c)
  sides_c m x = elim (sides m x) [
    | inl l ↦ inl (le_trans (mul-le-mul_right c l) (le_of_eq (over_c w)))
    | inr l ↦ inr (le_trans (le_of_eq (sym (over_c (suc w) ∙ next_is))) (mul-le-mul_right c l))
  ]

  -- the choice, by how twice the remainder compares
  abbrev Good : ℕ → Type 0
  Good v =
      ((m : ℕ) → Datum (parameters f) m → gap A (v * 2 ^ k * c) ≤ gap A (m * c))
      × ((m : ℕ) → Datum (parameters f) m → gap A (v * 2 ^ k * c) ≡ gap A (m * c) → (v * 2 ^ k ≡ m) ⊎ (v % 2 ≡ 0))

  same : (v m : ℕ) → v * u ≡ m * c → v * 2 ^ k ≡ m
  same v m e = eq_of_mul-eq-mul_right c C (v * 2 ^ k) m (over_c v ∙ e)

  down : A % u * 2 ≤ u → (A % u * 2 < u) ⊎ (w % 2 ≡ 0) → Good w
  down h t = (
    λ m x. subst (λ (z : ℕ). gap A z ≤ gap A (m * c)) (sym (over_c w)) ((nearer A (w * u) u (A % u) (m * c) parts rest (sides_c m x)).0 h),
    λ m x e. elim t [ inl s ↦ inl (same w m ((only A (w * u) u (A % u) (m * c) parts rest (sides_c m x)).0 s (rw (over_c w) at e))) | inr v ↦ inr v ],
  )

  up : u ≤ A % u * 2 → (u < A % u * 2) ⊎ (suc w % 2 ≡ 0) → Good (suc w)
  up h t =
      let o = over_c (suc w) ∙ next_is in (
        λ m x. subst (λ (z : ℕ). gap A z ≤ gap A (m * c)) (sym o) ((nearer A (w * u) u (A % u) (m * c) parts rest (sides_c m x)).1 h),
        λ m x e. elim t [ inl s ↦ inl (same (suc w) m (next_is ∙ (only A (w * u) u (A % u) (m * c) parts rest (sides_c m x)).1 s (rw o at e))) | inr v ↦ inr v ],
      )

  choose : (o : Ordering) → Cmp o (A % u * 2) u → Good (nearest w o)
  choose Ordering.lt h = down (le_of_lt h) (inl h)
  choose Ordering.gt h = up (le_of_lt h) (inl h)
  choose Ordering.eq h = elim (parity w) [
    | inl p ↦ subst Good (sym p.0) (down (le_of_eq h) (inr p.1))
    | inr p ↦ subst Good (sym p.0) (up (le_of_eq (sym h)) (inr p.1))
  ]
    where
      parity : (v : ℕ) → ((v + v % 2 ≡ v) × (v % 2 ≡ 0)) ⊎ ((v + v % 2 ≡ suc v) × (suc v % 2 ≡ 0))
      parity v = elim (lt_or_le 0 (v % 2)) [ inl l ↦ inr (omega arith, omega arith) | inr l ↦ inl (omega arith, omega arith) ]

  good : Good q
  good = choose (compare (A % u * 2) u) (cmp (A % u * 2) u)

  -- ---- below the threshold the result is below 2 ^ (emax + 1): the largest datum is nearer than what lies from there on.
  -- H is half a unit of that datum's last digit, and X is 2 ^ (emax + 1), both times c
  fits_in : A < 2 ^ (2 * emax f - 2) * c * (2 * 2 ^ d - 1) → q * 2 ^ k < 2 ^ (low f + suc (emax f))
  fits_in h = elim (lt_or_le (q * 2 ^ k) (2 ^ (low f + suc (emax f)))) [
    | inl l ↦ l
    | inr l ↦ absurd (clash A H X (q * 2 ^ k * c) H_pos (rw below_top at h) (from_top l) nearer_most)
  ]
    where
      M : ℕ
      M = span (parameters f)

      H : ℕ
      H = 2 ^ (2 * emax f - 2) * c

      X : ℕ
      X = 2 ^ d * (H * 2)

      H_pos : 0 < H
      H_pos = mul-pos (pow_pos (2 * emax f - 2)) C

      two_halves : 2 ^ M * c ≡ H * 2
      two_halves =
          let e : M ≡ suc (2 * emax f - 2) = omega (arith, emax-two f) in
          ap (λ (z : ℕ). 2 ^ z * c) e ∙ ap (λ (z : ℕ). z * c) (pow-suc 2 (2 * emax f - 2)) ∙ mul_right_comm (2 ^ (2 * emax f - 2)) 2 c

      below_top : H * (2 * 2 ^ d - 1) ≡ X - H
      below_top = mul-sub H (2 * 2 ^ d) 1 ∙ ap₂ (λ (y z : ℕ). y - z) (sym (mul_assoc H 2 (2 ^ d)) ∙ mul_comm (H * 2) (2 ^ d)) (mul-one H)

      most : Datum (parameters f) ((2 ^ d - 1) * 2 ^ M)
      most = record { digits = 2 ^ d - 1; power = M; short = ones_lt d; low = le_refl M; is = refl }

      most-is : (2 ^ d - 1) * 2 ^ M * c ≡ X - H * 2
      most-is =
          mul_assoc (2 ^ d - 1) (2 ^ M) c ∙ ap (λ (z : ℕ). (2 ^ d - 1) * z) two_halves ∙ mul_comm (2 ^ d - 1) (H * 2) ∙ mul-sub (H * 2) (2 ^ d) 1
          ∙ ap₂ (λ (y z : ℕ). y - z) (mul_comm (H * 2) (2 ^ d)) (mul-one (H * 2))

      nearer_most : gap A (q * 2 ^ k * c) ≤ gap A (X - H * 2)
      nearer_most = subst (λ (z : ℕ). gap A (q * 2 ^ k * c) ≤ gap A z) most-is (good.0 ((2 ^ d - 1) * 2 ^ M) most)

      from_top : 2 ^ (low f + suc (emax f)) ≤ q * 2 ^ k → X ≤ q * 2 ^ k * c
      from_top l = le_trans (le_of_eq top_is) (mul-le-mul_right c l)
        where
          top_is : X ≡ 2 ^ (low f + suc (emax f)) * c
          top_is =
              ap (λ (z : ℕ). 2 ^ d * z) (sym two_halves) ∙ sym (mul_assoc (2 ^ d) (2 ^ M) c) ∙ ap (λ (z : ℕ). z * c) (sym (pow-add 2 d M))
              ∙ ap (λ (z : ℕ). 2 ^ z * c) (omega (arith, two f, emax-two f))

      clash : (A H X N : ℕ) → 0 < H → A < X - H → X ≤ N → gap A N ≤ gap A (X - H * 2) → ⊥
      clash A H X N p a b g = omega arith

-- ---- `round`
as_units : (f : Format) (s : Bool) (a c : ℕ) (C : 0 < c) → round f s a c ≡ units f s (q f (a * 2 ^ low f) c C) (k f (a * 2 ^ low f) c C)
as_units f s a c C = round_is f s a c

under-limit : (f : Format) (a c : ℕ) → a * 2 ^ prec f < limit (parameters f) * c → a * 2 ^ low f < 2 ^ (2 * emax f - 2) * c * (2 * 2 ^ prec f - 1)
under-limit f a c h = lt_of_le_of_lt (le_of_eq units_of) (lt_of_lt_of_le (mul-lt-mul_of_pos_right h (pow_pos (emax f - 2))) (le_of_eq threshold))
  where
    W : ℕ
    W = 2 * 2 ^ prec f - 1

    units_of : a * 2 ^ low f ≡ a * 2 ^ prec f * 2 ^ (emax f - 2)
    units_of =
        ap (λ (z : ℕ). a * 2 ^ z) (omega (arith, emax-two f)) ∙ ap (λ (z : ℕ). a * z) (pow-add 2 (prec f) (emax f - 2))
        ∙ sym (mul_assoc a (2 ^ prec f) (2 ^ (emax f - 2)))

    halves : 2 ^ emax f * 2 ^ (emax f - 2) ≡ 2 ^ (2 * emax f - 2)
    halves = sym (pow-add 2 (emax f) (emax f - 2)) ∙ ap (λ (z : ℕ). 2 ^ z) (omega (arith, emax-two f))

    threshold : 2 ^ emax f * W * c * 2 ^ (emax f - 2) ≡ 2 ^ (2 * emax f - 2) * c * W
    threshold = rw (← halves) (simp (mul_assoc, mul_comm, mul_left_comm))

at_limit : (f : Format) → round f false (limit (parameters f)) (2 ^ prec f) ≡ inf false
unfolding round
at_limit binary32 = refl
at_limit binary64 = refl

top : (x : Float) → T (le (inf false) x) → x ≡ inf false
unfolding le
top nan h = absurd h
top (inf true) h = absurd h
top (inf false) h = refl
top (fin s m e) h = absurd h

over-limit : (f : Format) (a c : ℕ) → 0 < c → limit (parameters f) * c ≤ a * 2 ^ prec f → round f false a c ≡ inf false
over-limit f a c C h = top (round f false a c) (rw (at_limit f) at (round_mono f (limit (parameters f)) (2 ^ prec f) a c (pow_pos (prec f)) C h))

over-signed : (f : Format) (s : Bool) (a c : ℕ) → 0 < c → limit (parameters f) * c ≤ a * 2 ^ prec f → round f s a c ≡ inf s
over-signed f false a c C h = over-limit f a c C h
over-signed f true a c C h = round_neg f false a c ∙ ap neg (over-limit f a c C h) ∙ unfold neg in refl

pub round_meets : (f : Format) (s : Bool) (a c : ℕ) → 0 < c → Rounds (parameters f) s a c (round f s a c)
round_meets f s a c C = record { under = near; over = over-signed f s a c C }
  where
    near : a * 2 ^ prec f < limit (parameters f) * c → Nearest (parameters f) s a c (round f s a c)
    near h =
        let A = a * 2 ^ low f in
        let Q = q f A c C in
        let K = k f A c C in
        let l = fits_in f A c C (under-limit f a c h) in
        record {
          n = Q * 2 ^ K;
          value = subst (λ (z : Float). HasValue z s (Q * 2 ^ K) (2 ^ low f)) (sym (as_units f s a c C)) (units_val f s Q K l);
          datum = datum_of f Q K (q_le f A c C) (full f A c C) l;
          nearest = (good f A c C).0;
          tie = λ m x e. elim ((good f A c C).1 m x e) [ inl t ↦ inl t | inr t ↦ inr (even_of f Q K (q_le f A c C) (full f A c C) t) ];
        }

-- the same of a result that is known to be it
pub rounds_by : (f : Format) {s : Bool} {a c : ℕ} {r : Float} → 0 < c → r ≡ round f s a c → Rounds (parameters f) s a c r
rounds_by f {s} {a} {c} C e = subst (λ (x : Float). Rounds (parameters f) s a c x) (sym e) (round_meets f s a c C)
