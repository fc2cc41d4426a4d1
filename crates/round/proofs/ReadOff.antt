-- The whole part of a fraction below 1024, read off the bits of the f64 that is 2 ^ 27 more. Assumes nothing.
use Prim.Native.Nat.compare
use Prim.Native.Nat.{ℕ, zero, suc, min, ◌+◌, ◌-◌, ◌*◌, ◌/◌, ◌%◌, ◌^◌, ◌≤◌, ◌<◌, compare, Ordering}
use mathlib.Core.Path.{◌≡◌, refl, sym, ap, ◌∙◌, subst}
use mathlib.Core.Logic.{◌⊎◌, inl, inr, ⊎_elim}
use mathlib.Core.Bool.{Bool, true, false, not, cond, ◌&&◌, ◌||◌, beq}
use native.Mathlib.Nat.{le_trans, le_of_eq, lt_of_lt_of_le, lt_of_le_of_lt, lt_of_not-le, lt_irrefl, div-eq_of_lt, mul_comm, mul_assoc, mul_right_comm}
use native.Mathlib.Nat.{mul-pos, mul-le-mul_right, mul-lt-mul_of_pos_right, mul-div_cancel, mul-mod_left, le-div_iff_mul-le, div-lt_iff_lt-mul}
use native.Mathlib.Nat.{add-mul-div_right, div-add-mod', div-div-eq-div-mul, add-mul-mod_self_right}
use native.Mathlib.Omega.{arith}
use lib.Pow.{pow-add, pow_pos, pow_mono, shl_lt, shl-shr}
use lib.Dec.{T, lt→ltb, eqb→eq, lit≤, lit<, leb, ltb, eqb, leb→le, nleb→lt, ltb→lt}
use lib.IntN.{ℤ, pos, negsuc}
use lib.Ieee.{Float, nan, inf, fin, Format, binary32, binary64, up, down, size, nearest, units, round, to_bits, fits, add, sum, le, lt, eq, is_nan, of_bits}
use lib.Ieee.Bits.{is_true}
use Rattle.floats.specs.RampIndex.{floor_of, half_up}
use lib.Ieee.Digits.{size-lt, size-le}
use lib.Ieee.Fits.{core, round_is, nearest-le, down_pos, and_l, and_r}
use lib.Ieee.Exact.{HasValue, units_val}
use lib.Ieee.Nearest.{closest, closest_same, nearest-ge, div_same}

mod_one : (n : ℕ) → n % 1 ≡ 0
mod_one n = omega arith

le_or_lt : (a b : ℕ) → (a ≤ b) ⊎ (b < a)
le_or_lt a b = go (leb a b) (leb→le a b) (nleb→lt a b)
  where
    go : (t : Bool) → (T t → a ≤ b) → (T (not t) → b < a) → (a ≤ b) ⊎ (b < a)
    go true y n = inl (y tt)
    go false y n = inr (n tt)

suc_le_suc : {a b : ℕ} → a ≤ b → suc a ≤ suc b
suc_le_suc h = omega arith

quarter : (m : ℕ) → m < 2 ^ 24 → m * 1 * 4 < 2 ^ 26
quarter m h = omega arith

rest : (k : ℕ) → k ≤ 24 → 24 - k + suc k ≡ 25
rest k h = omega arith

multiple : (m k : ℕ) → k ≤ 24 → m * 1 * 2 ^ 25 % 2 ^ suc k ≡ 0
multiple m k h =
    ap (λ (j : ℕ). m * 1 * 2 ^ j % 2 ^ suc k) (sym (rest k h))
    ∙ ap (λ (x : ℕ). m * 1 * x % 2 ^ suc k) (pow-add 2 (24 - k) (suc k))
    ∙ ap (λ (x : ℕ). x % 2 ^ suc k) (sym (mul_assoc (m * 1) (2 ^ (24 - k)) (2 ^ suc k)))
    ∙ mul-mod_left (m * 1 * 2 ^ (24 - k)) (2 ^ suc k)

pow_lt_back : (i p : ℕ) → 2 ^ i < 2 ^ p → i < p
pow_lt_back i p h = lt_of_not-le (λ (g : p ≤ i). lt_irrefl (2 ^ i) (lt_of_lt_of_le h (pow_mono g)))

between : (z : ℕ) → 1101 < z → z ≤ 1102 → z ≡ 1102
between z a b = omega arith

-- a number with 1102 binary digits
size_is : (w : ℕ) → 2 ^ 1101 ≤ w → w < 2 ^ 1102 → size w ≡ 1102
size_is w a b = between (size w) (pow_lt_back 1101 (size w) (lt_of_le_of_lt a (size-lt w))) (size-le w 1102 b)

-- ---- the pattern of q * 2 ^ -25, for a q of 53 digits

abbrev shown : Bool → ℕ → ℕ → ℕ
shown s n z = cond s (2 ^ 63) 0 + (z - 53) * 2 ^ 52 + n / 2 ^ (z - 53)

to_bits_is : (s : Bool) (m : ℕ) (e : _) → to_bits binary64 (fin s m e) ≡ shown s (m * up e * 2 ^ 1074 / down e) (size (m * up e * 2 ^ 1074 / down e))
unfolding to_bits
to_bits_is s m e = refl

fifty_three : (q : ℕ) → 2 ^ 52 ≤ q → q < 2 ^ 53 → size (q * 2 ^ 1049) ≡ 1102
fifty_three q a b =
    size_is (q * 2 ^ 1049) (le_trans (le_of_eq (pow-add 2 52 1049)) (mul-le-mul_right (2 ^ 1049) a)) (shl_lt 53 1049 b)

shown_is : (q : ℕ) → 2 ^ 52 ≤ q → q < 2 ^ 53 → shown false (q * 2 ^ 1049) (size (q * 2 ^ 1049)) ≡ 1049 * 2 ^ 52 + q
shown_is q a b =
    ap (λ (z : ℕ). shown false (q * 2 ^ 1049) z) (fifty_three q a b)
    ∙ ap (λ (x : ℕ). 1049 * 2 ^ 52 + x) (shl-shr q 1049)

bits_of : (x : Float) (q : ℕ) → HasValue x false (q * 2 ^ 1049) (2 ^ 1074) → 2 ^ 52 ≤ q → q < 2 ^ 53 → to_bits binary64 x ≡ 1049 * 2 ^ 52 + q
bits_of nan q v a b = absurd v
bits_of (inf t) q v a b = absurd v
bits_of (fin t m e) q v a b =
    let n : m * up e * 2 ^ 1074 / down e ≡ q * 2 ^ 1049 = ap (λ (x : ℕ). x / down e) v.1 ∙ mul-div_cancel (q * 2 ^ 1049) (down_pos e) in
    to_bits_is t m e
    ∙ ap (λ (s : Bool). shown s (m * up e * 2 ^ 1074 / down e) (size (m * up e * 2 ^ 1074 / down e))) v.0
    ∙ ap (λ (x : ℕ). shown false x (size x)) n
    ∙ shown_is q a b

-- ---- a fraction N / den from 2 ^ 27 to below 2 ^ 28, rounded

spread : (N den : ℕ) → N * 2 ^ 1074 * den ≡ N * 2 ^ 25 * (den * 2 ^ 1049)
spread N den =
    ap (λ (x : ℕ). x * den) (sym (mul_assoc N (2 ^ 25) (2 ^ 1049)))
    ∙ mul_assoc (N * 2 ^ 25) (2 ^ 1049) den
    ∙ ap (λ (x : ℕ). N * 2 ^ 25 * x) (mul_comm (2 ^ 1049) den)

under : (N den : ℕ) → N < (2 ^ 27 + 1024) * den → N < 2 ^ 28 * den
under N den h = omega arith

room : (q Q : ℕ) → q ≤ suc Q → Q < 2 ^ 52 + 2 ^ 35 → q < 2 ^ 53
room q Q a b = omega arith

near : (q Q : ℕ) → 2 ^ 52 ≤ q → q ≤ suc Q → Q < 2 ^ 52 + 3 * 2 ^ 23 + 1 → q / 2 ^ 25 ≡ 2 ^ 27
near q Q a b c = omega arith

pinned : (x : ℕ) → 2 ^ 27 ≤ x → x < 2 ^ 27 + 1 → x ≡ 2 ^ 27
pinned x a b = omega arith

drop-field : (q : ℕ) → (1049 * 2 ^ 52 + q) / 2 ^ 25 % 1024 ≡ q / 2 ^ 25 % 1024
drop-field q = omega arith

above_zero : (u : ℕ) → 0 < u → compare 0 u ≡ Ordering.lt
above_zero zero h = absurd (lt_irrefl 0 h)
above_zero (suc u) h = compare.zero-suc u

module _ (N den : ℕ) (D : 0 < den) (lo : 2 ^ 27 * den ≤ N) (hi : N < (2 ^ 27 + 1024) * den) where
  q : ℕ
  q = closest (N * 2 ^ 25) den

  wide : size (N * 2 ^ 1074 / den) ≡ 1102
  wide =
      size_is (N * 2 ^ 1074 / den)
      ((le-div_iff_mul-le D).1 (le_trans (le_of_eq (mul_right_comm (2 ^ 27) (2 ^ 1074) den)) (mul-le-mul_right (2 ^ 1074) lo)))
      ((div-lt_iff_lt-mul D).1 (lt_of_lt_of_le (mul-lt-mul_of_pos_right (under N den hi) (pow_pos 1074)) (le_of_eq (mul_right_comm (2 ^ 28) den (2 ^ 1074)))))

  rounded : round binary64 false N den ≡ units binary64 false q 1049
  unfolding q
  rounded =
      round_is binary64 false N den
      ∙ ap (λ (z : ℕ). core binary64 false (N * 2 ^ 1074) den (z - 53)) wide
      ∙ ap (λ (x : ℕ). units binary64 false x 1049)
      (closest_same (N * 2 ^ 1074) (den * 2 ^ 1049) (N * 2 ^ 25) den (mul-pos D (pow_pos 1049)) D (spread N den))

  Q_lo : 2 ^ 52 ≤ N * 2 ^ 25 / den
  Q_lo = (le-div_iff_mul-le D).1 (omega arith)

  Q_hi : N * 2 ^ 25 / den < 2 ^ 52 + 2 ^ 35
  Q_hi = (div-lt_iff_lt-mul D).1 (omega arith)

  q_ge : N * 2 ^ 25 / den ≤ q
  unfolding q
  q_ge = nearest-ge (N * 2 ^ 25 / den) (compare (N * 2 ^ 25 % den * 2) den)

  q_le : q ≤ suc (N * 2 ^ 25 / den)
  unfolding q
  q_le = nearest-le (N * 2 ^ 25 / den) (compare (N * 2 ^ 25 % den * 2) den)

  q_lo : 2 ^ 52 ≤ q
  q_lo = le_trans Q_lo q_ge

  q_hi : q < 2 ^ 53
  q_hi = room q (N * 2 ^ 25 / den) q_le Q_hi

  bits : to_bits binary64 (round binary64 false N den) ≡ 1049 * 2 ^ 52 + q
  bits =
      ap (λ (x : Float). to_bits binary64 x) rounded
      ∙ bits_of (units binary64 false q 1049) q
      (units_val binary64 false q 1049 (lt_of_lt_of_le (shl_lt 53 1049 q_hi) (pow_mono {i = 1102} {j = 2098} (lit≤ tt)))) q_lo q_hi

  -- the fraction is a whole number of 2 ^ -25, or lies at most 3/4 above 2 ^ 27
  abbrev Split : Type 0
  Split = (N * 2 ^ 25 % den ≡ 0) ⊎ (N * 4 ≤ (2 ^ 29 + 3) * den)

  exact : N * 2 ^ 25 % den ≡ 0 → q ≡ N * 2 ^ 25 / den
  unfolding q
  exact h =
      ap (λ (r : ℕ). nearest (N * 2 ^ 25 / den) (compare (r * 2) den)) h
      ∙ ap (λ (o : Ordering). nearest (N * 2 ^ 25 / den) o) (above_zero den D)

  whole_q : Split → q / 2 ^ 25 ≡ N / den
  whole_q (inl h) =
      ap (λ (x : ℕ). x / 2 ^ 25) (exact h)
      ∙ div-div-eq-div-mul (N * 2 ^ 25) den (2 ^ 25)
      ∙ div_same (N * 2 ^ 25) (den * 2 ^ 25) N den (mul-pos D (pow_pos 25)) D (mul_assoc N (2 ^ 25) den ∙ ap (λ (x : ℕ). N * x) (mul_comm (2 ^ 25) den))
  whole_q (inr h) =
      let top : N * 2 ^ 25 / den < 2 ^ 52 + 3 * 2 ^ 23 + 1 = (div-lt_iff_lt-mul D).1 (omega arith) in
      let a : 2 ^ 27 ≤ N / den = (le-div_iff_mul-le D).1 (omega arith) in
      let b : N / den < 2 ^ 27 + 1 = (div-lt_iff_lt-mul D).1 (omega arith) in
      near q (N * 2 ^ 25 / den) q_lo q_le top ∙ sym (pinned (N / den) a b)

  pub read_off : Split → to_bits binary64 (round binary64 false N den) / 2 ^ 25 % 1024 ≡ N / den % 1024
  read_off h = ap (λ (x : ℕ). x / 2 ^ 25 % 1024) bits ∙ drop-field q ∙ ap (λ (x : ℕ). x % 1024) (whole_q h)

-- ---- the parts of an f32 from 0 to below 1024

-- m has at most 24 digits
small_digits : (s : Bool) (m : ℕ) (e : ℤ) → T (fits binary32 (fin s m e)) → m < 2 ^ 24
unfolding fits
small_digits s zero e f = lit< tt
small_digits s (suc m) e f =
    ltb→lt (suc m) (2 ^ 24)
    (and_r (eqb (suc m % 2) 1) (ltb (suc m) (2 ^ 24)) (and_l (eqb (suc m % 2) 1 && ltb (suc m) (2 ^ 24)) (leb (down e) (2 ^ 149))
    (and_l (eqb (suc m % 2) 1 && ltb (suc m) (2 ^ 24) && leb (down e) (2 ^ 149)) (ltb (suc m * up e) (2 ^ 128 * down e)) f)))

-- a multiple of 2 ^ -25 or below 1/4
parts : (m : ℕ) (e : ℤ) → m < 2 ^ 24 → (m * up e * 2 ^ 25 % down e ≡ 0) ⊎ (m * up e * 4 < down e)
parts m (pos k) h = inl (mod_one (m * 2 ^ k * 2 ^ 25))
parts m (negsuc k) h = split (le_or_lt k 24)
  where
    split : (k ≤ 24) ⊎ (24 < k) → (m * 1 * 2 ^ 25 % 2 ^ suc k ≡ 0) ⊎ (m * 1 * 4 < 2 ^ suc k)
    split (inl a) = inl (multiple m k a)
    split (inr b) = inr (lt_of_lt_of_le (quarter m h) (pow_mono {i = 26} {j = suc k} (suc_le_suc b)))

-- ---- what is 2 ^ 27 more than A / den

linear : (A den : ℕ) → (A + 2 ^ 27 * den) * 2 ^ 25 ≡ A * 2 ^ 25 + 2 ^ 52 * den
linear A den = omega arith

back_down : (x : ℕ) → x < 1024 → (x + 2 ^ 27) % 1024 ≡ x
back_down x h = omega arith

lo_of : (A den : ℕ) → 2 ^ 27 * den ≤ A + 2 ^ 27 * den
lo_of A den = omega arith

hi_of : (A den : ℕ) → A < 1024 * den → A + 2 ^ 27 * den < (2 ^ 27 + 1024) * den
hi_of A den h = omega arith

close_of : (A den : ℕ) → A * 4 ≤ 3 * den → (A + 2 ^ 27 * den) * 4 ≤ (2 ^ 29 + 3) * den
close_of A den h = omega arith

final : (A den : ℕ) → 0 < den → A < 1024 * den → (A * 2 ^ 25 % den ≡ 0) ⊎ (A * 4 ≤ 3 * den)
    → to_bits binary64 (round binary64 false (A + 2 ^ 27 * den) den) / 2 ^ 25 % 1024 ≡ A / den
final A den D h s =
    read_off (A + 2 ^ 27 * den) den D (lo_of A den) (hi_of A den h)
    (⊎_elim
    (λ (x : A * 2 ^ 25 % den ≡ 0). inl (ap (λ (n : ℕ). n % den) (linear A den) ∙ add-mul-mod_self_right (A * 2 ^ 25) (2 ^ 52) den ∙ x))
    (λ (x : A * 4 ≤ 3 * den). inr (close_of A den x)) s)
    ∙ ap (λ (x : ℕ). x % 1024) (add-mul-div_right A (2 ^ 27) D)
    ∙ back_down (A / den) ((div-lt_iff_lt-mul D).1 h)

-- ---- the sums

lane_num : (a d : ℕ) → a * 1 + 1 * 2 ^ 27 * d ≡ a + 2 ^ 27 * d
lane_num a d = omega arith

times_one : (d : ℕ) → d * 1 ≡ d
times_one d = omega arith

lane-sum : (m : ℕ) (e : ℤ) → add binary64 (fin false m e) (fin false 1 (pos 27)) ≡ round binary64 false (m * up e + 2 ^ 27 * down e) (down e)
unfolding add sum
lane-sum m e =
    ap (λ (n : ℕ). round binary64 false n (down e * 1)) (lane_num (m * up e) (down e))
    ∙ ap (λ (d : ℕ). round binary64 false (m * up e + 2 ^ 27 * down e) d) (times_one (down e))

half_num : (a d : ℕ) → a * 2 + 268435457 * 1 * d ≡ a * 2 + d + 2 ^ 27 * (d * 2)
half_num a d = omega arith

half_sum : (m : ℕ) (e : ℤ) → add binary64 (fin false m e) (fin false 268435457 (negsuc 0))
    ≡ round binary64 false (m * up e * 2 + down e + 2 ^ 27 * (down e * 2)) (down e * 2)
unfolding add sum
half_sum m e = ap (λ (n : ℕ). round binary64 false n (down e * 2)) (half_num (m * up e) (down e))

less_none : (b : ℕ) → b - 0 ≡ b
less_none b = omega arith

-- -0 added to what is above 0
neg_sum : (a b c : ℕ) → a ≡ 0 → 0 < b → sum binary64 true a false b c ≡ round binary64 false b c
unfolding sum
neg_sum a b c h p =
    ap (λ (x : ℕ). cond (ltb x b) (round binary64 false (b - x) c) (round binary64 (true && ltb b x) (x - b) c)) h
    ∙ ap (λ (t : Bool). cond t (round binary64 false (b - 0) c) (round binary64 (true && ltb b 0) (0 - b) c)) (is_true (ltb 0 b) (lt→ltb 0 b p))
    ∙ ap (λ (n : ℕ). round binary64 false n c) (less_none b)

lane_neg_num : (d : ℕ) → 1 * 2 ^ 27 * d ≡ 0 + 2 ^ 27 * d
lane_neg_num d = omega arith

lane_neg : (m : ℕ) (e : ℤ) → m * up e * 1 ≡ 0 → add binary64 (fin true m e) (fin false 1 (pos 27)) ≡ round binary64 false (0 + 2 ^ 27 * down e) (down e)
unfolding add
lane_neg m e h =
    neg_sum (m * up e * 1) (1 * 2 ^ 27 * down e) (down e * 1) h (pos27 (down e) (down_pos e))
    ∙ ap (λ (n : ℕ). round binary64 false n (down e * 1)) (lane_neg_num (down e))
    ∙ ap (λ (d : ℕ). round binary64 false (0 + 2 ^ 27 * down e) d) (times_one (down e))
  where
    pos27 : (d : ℕ) → 0 < d → 0 < 1 * 2 ^ 27 * d
    pos27 d p = omega arith

half_neg_num : (d : ℕ) → 268435457 * 1 * d ≡ d + 2 ^ 27 * (d * 2)
half_neg_num d = omega arith

half_neg : (m : ℕ) (e : ℤ) → m * up e * 2 ≡ 0 → add binary64 (fin true m e) (fin false 268435457 (negsuc 0))
    ≡ round binary64 false (down e + 2 ^ 27 * (down e * 2)) (down e * 2)
unfolding add
half_neg m e h =
    neg_sum (m * up e * 2) (268435457 * 1 * down e) (down e * 2) h (pos_c (down e) (down_pos e))
    ∙ ap (λ (n : ℕ). round binary64 false n (down e * 2)) (half_neg_num (down e))
  where
    pos_c : (d : ℕ) → 0 < d → 0 < 268435457 * 1 * d
    pos_c d p = omega arith

-- a negative number that is not below 0 is -0
neg_zero : (m : ℕ) (e : ℤ) → T (le (fin false 0 (pos 0)) (fin true m e)) → m * up e ≡ 0
unfolding le lt eq
neg_zero m e h =
    tidy (down e) (m * up e)
    (eqb→eq (0 * 1 * down e) (m * up e * 1) (and_l (eqb (0 * 1 * down e) (m * up e * 1)) (beq false true || eqb (0 * 1 * down e) 0) h))
  where
    tidy : (d a : ℕ) → 0 * 1 * d ≡ a * 1 → a ≡ 0
    tidy d a h = omega arith

below_1024 : (m : ℕ) (e : ℤ) → T (lt (fin false m e) (fin false 1 (pos 10))) → m * up e < 1024 * down e
unfolding lt
below_1024 m e h = tidy (m * up e) (down e) (ltb→lt (m * up e * 1) (1 * 2 ^ 10 * down e) h)
  where
    tidy : (a d : ℕ) → a * 1 < 1 * 2 ^ 10 * d → a < 1024 * d
    tidy a d h = omega arith

quarter_three : (a d : ℕ) → a * 4 < d → a * 4 ≤ 3 * d
quarter_three a d h = omega arith

nothing : (d : ℕ) → 0 * 4 ≤ 3 * d
nothing d = omega arith

zero_div : (d : ℕ) → 0 < d → 0 / d ≡ 0
zero_div d D = div-eq_of_lt D

not_below : (n : ℕ) (d : ℤ) → T (lt nan (fin false n d)) → ⊥
unfolding lt
not_below n d t = t

not_above : T (le (fin false 0 (pos 0)) (inf true)) → ⊥
unfolding le lt eq
not_above t = t

inf_not_below : (n : ℕ) (d : ℤ) → T (lt (inf false) (fin false n d)) → ⊥
unfolding lt
inf_not_below n d t = t

pub whole_is : (p : Float) → T (fits binary32 p) → T (le (of_bits binary32 0) p) → T (lt p (of_bits binary32 1149239296))
    → to_bits binary64 (add binary64 p (of_bits binary64 4728779608739020800)) / 2 ^ 25 % 1024 ≡ floor_of p
unfolding of_bits
whole_is nan f a b = absurd (not_below 1 (pos 10) b)
whole_is (inf true) f a b = absurd (not_above a)
whole_is (inf false) f a b = absurd (inf_not_below 1 (pos 10) b)
whole_is (fin true m e) f a b =
    let z : m * up e ≡ 0 = neg_zero m e a in
    let z' : m * up e * 1 ≡ 0 = omega arith in
    ap (λ (x : Float). to_bits binary64 x / 2 ^ 25 % 1024) (lane_neg m e z')
    ∙ final 0 (down e) (down_pos e) (some (down e) (down_pos e)) (inr (nothing (down e)))
    ∙ zero_div (down e) (down_pos e)
  where
    some : (d : ℕ) → 0 < d → 0 < 1024 * d
    some d p = omega arith
whole_is (fin false m e) f a b =
    let h : m * up e < 1024 * down e = below_1024 m e b in
    ap (λ (x : Float). to_bits binary64 x / 2 ^ 25 % 1024) (lane-sum m e)
    ∙ final (m * up e) (down e) (down_pos e) h
    (⊎_elim (λ (x : m * up e * 2 ^ 25 % down e ≡ 0). inl x) (λ (x : m * up e * 4 < down e). inr (quarter_three (m * up e) (down e) x))
    (parts m e (small_digits false m e f)))

-- ---- halves up

or_cases : (a b : Bool) → T (a || b) → T a ⊎ T b
or_cases true b t = inl tt
or_cases false b t = inr t

upto_255 : (m : ℕ) (e : ℤ) → T (le (fin false m e) (fin false 255 (pos 0))) → m * up e ≤ 255 * down e
unfolding le lt eq
upto_255 m e h =
    ⊎_elim
    (λ (x : T (ltb (m * up e * 1) (255 * 1 * down e))). less (m * up e) (down e) (ltb→lt (m * up e * 1) (255 * 1 * down e) x))
    (λ (x : T (eqb (m * up e * 1) (255 * 1 * down e) && (beq false false || eqb (m * up e * 1) 0))). same (m * up e) (down e)
    (eqb→eq (m * up e * 1) (255 * 1 * down e) (and_l (eqb (m * up e * 1) (255 * 1 * down e)) (beq false false || eqb (m * up e * 1) 0) x)))
    (or_cases (ltb (m * up e * 1) (255 * 1 * down e)) (eqb (m * up e * 1) (255 * 1 * down e) && (beq false false || eqb (m * up e * 1) 0)) h)
  where
    less : (a d : ℕ) → a * 1 < 255 * 1 * d → a ≤ 255 * d
    less a d h = omega arith

    same : (a d : ℕ) → a * 1 ≡ 255 * 1 * d → a ≤ 255 * d
    same a d h = omega arith

nan_not_le : (n : ℕ) (d : ℤ) → T (le nan (fin false n d)) → ⊥
unfolding le lt eq
nan_not_le n d t = t

inf_not_le : (n : ℕ) (d : ℤ) → T (le (inf false) (fin false n d)) → ⊥
unfolding le lt eq
inf_not_le n d t = t

twice : (d : ℕ) → 0 < d → 0 < d * 2
twice d p = omega arith

half_room : (a d : ℕ) → 0 < d → a ≤ 255 * d → a * 2 + d < 1024 * (d * 2)
half_room a d p h = omega arith

half_close : (a d : ℕ) → a * 4 < d → (a * 2 + d) * 4 ≤ 3 * (d * 2)
half_close a d h = omega arith

half_apart : (a d : ℕ) → (a * 2 + d) * 2 ^ 25 ≡ a * 2 ^ 25 * 2 + 2 ^ 24 * (d * 2)
half_apart a d = omega arith

whole_again : (x d : ℕ) → x % d ≡ 0 → x ≡ x / d * d
whole_again x d h = sym (div-add-mod' x d) ∙ ap (λ (r : ℕ). x / d * d + r) h ∙ plus_none (x / d * d)
  where
    plus_none : (n : ℕ) → n + 0 ≡ n
    plus_none n = omega arith

half_exact : (a d : ℕ) → a * 2 ^ 25 % d ≡ 0 → (a * 2 + d) * 2 ^ 25 % (d * 2) ≡ 0
half_exact a d h =
    ap (λ (n : ℕ). n % (d * 2)) (half_apart a d)
    ∙ add-mul-mod_self_right (a * 2 ^ 25 * 2) (2 ^ 24) (d * 2)
    ∙ ap (λ (n : ℕ). n * 2 % (d * 2)) (whole_again (a * 2 ^ 25) d h)
    ∙ ap (λ (n : ℕ). n % (d * 2)) (mul_assoc (a * 2 ^ 25 / d) d 2)
    ∙ mul-mod_left (a * 2 ^ 25 / d) (d * 2)

pub half_is : (p : Float) → T (fits binary32 p) → T (le (of_bits binary32 0) p) → T (le p (of_bits binary32 1132396544))
    → to_bits binary64 (add binary64 p (of_bits binary64 4728779608755798016)) / 2 ^ 25 % 1024 ≡ half_up p
unfolding of_bits
half_is nan f a b = absurd (nan_not_le 255 (pos 0) b)
half_is (inf true) f a b = absurd (not_above a)
half_is (inf false) f a b = absurd (inf_not_le 255 (pos 0) b)
half_is (fin true m e) f a b =
    let z : m * up e ≡ 0 = neg_zero m e a in
    let z' : m * up e * 2 ≡ 0 = omega arith in
    ap (λ (x : Float). to_bits binary64 x / 2 ^ 25 % 1024) (half_neg m e z')
    ∙ final (down e) (down e * 2) (twice (down e) (down_pos e)) (some (down e) (down_pos e)) (inr (six (down e)))
    ∙ div-eq_of_lt (less (down e) (down_pos e))
  where
    some : (d : ℕ) → 0 < d → d < 1024 * (d * 2)
    some d p = omega arith

    six : (d : ℕ) → d * 4 ≤ 3 * (d * 2)
    six d = omega arith

    less : (d : ℕ) → 0 < d → d < d * 2
    less d p = omega arith
half_is (fin false m e) f a b =
    let h : m * up e ≤ 255 * down e = upto_255 m e b in
    ap (λ (x : Float). to_bits binary64 x / 2 ^ 25 % 1024) (half_sum m e)
    ∙ final (m * up e * 2 + down e) (down e * 2) (twice (down e) (down_pos e)) (half_room (m * up e) (down e) (down_pos e) h)
    (⊎_elim (λ (x : m * up e * 2 ^ 25 % down e ≡ 0). inl (half_exact (m * up e) (down e) x))
    (λ (x : m * up e * 4 < down e). inr (half_close (m * up e) (down e) x)) (parts m e (small_digits false m e f)))
