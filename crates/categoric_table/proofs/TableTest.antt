-- The test of a sample, and the place that the code reads, are what the rule with a table says. Assumes nothing.
use Rattle.std.specs.Prelude.{Option, Some, None}
use mathlib.Core.Path.{◌≡◌, refl, sym, ap, ◌∙◌, subst}
use mathlib.Core.List.{List, []}
use mathlib.Core.Bool.{Bool, true, false, not, cond, ◌&&◌, and-true, true≢false}
use Prim.Native.Nat.{ℕ, zero, suc, ◌+◌, ◌*◌, ◌/◌, ◌^◌, ◌≤◌, ◌<◌}
use native.Mathlib.Nat.{le_trans, mul_right_comm, mul-lt-mul_of_pos_right, lt_of_mul-lt-mul_right, div-lt_iff_lt-mul, le-div_iff_mul-le, mul-pos}
use native.Mathlib.Omega.{arith}
use borrow.Author.Tests.{lt-ltb, le-ltb}
use lib.Dec.{T, ltb, ltb→lt, lt→ltb, nltb→le, lit<, lit≤, not_T}
use lib.IntN.{ℤ, pos, negsuc}
use lib.Ieee.{Float, nan, inf, fin, binary32, up, down, of_bits, lt, le, eq, of_int}
use lib.ListN.{get_or}
use lib.Ieee.Bits.{is_false}
use lib.Ieee.Exact.{HasValue}
use lib.Ieee.Fits.{down_pos, and_i, and_l, and_r}
use lib.Ieee.Order.{le_of_values}
use Rattle.floats.specs.RampIndex.{nought, floor_of}
use Rattle.floats.proofs.Order.{or_l, lt_le, lt_lt, lt_irrefl_float}
use Rattle.cast.specs.Truncated.{truncated_fraction, truncated}
use Rattle.cast.proofs.Value.{nothing}
use Rattle.cast.proofs.Lossless.{exact}
use Rattle.cast.proofs.Table.{table_end, Missed, missed}
use Rattle.colormapper.specs.Rule.{Rule, word, unknown, rule_color}
use Rattle.categoric_table.specs.Rule.{table_rule, categoric_rule_colors, table_color}
use Rattle.categoric_table.specs.forms.InTable.{minus_one, size_limit, in_table, at_least_zero, clamp, array_end, is_index}

by_cond : (P : Float → Type 0) (b : Bool) (x y : Float) → (T b → P x) → (T (not b) → P y) → P (cond b x y)
by_cond P true x y f g = f tt
by_cond P false x y f g = g tt

-- ---- a float and the limit of a table
both_ways : (a b : Bool) → (T a → T b) → (T b → T a) → a ≡ b
both_ways true true f g = refl
both_ways true false f g = absurd (f tt)
both_ways false true f g = absurd (g tt)
both_ways false false f g = refl

limit-value : (n : ℕ) → suc n ≤ 513 → HasValue (size_limit (suc n)) false (suc n) 1
unfolding size_limit
limit-value n h = exact (pos (suc n)) (le_trans h (lit≤ tt))

-- a / c below n, where k / d is n
module _ (a c k d n : ℕ) (C : 0 < c) (D : 0 < d) (v : k * 1 ≡ n * d) where
  scaled : k * c ≡ n * c * d
  scaled = let e : k ≡ n * d = omega arith in ap (λ (x : ℕ). x * c) e ∙ mul_right_comm n d c

  quotient_below : ltb (a * d) (k * c) ≡ ltb (a / c) n
  quotient_below =
      both_ways (ltb (a * d) (k * c)) (ltb (a / c) n)
      (λ t. lt→ltb (a / c) n ((div-lt_iff_lt-mul C).1 (lt_of_mul-lt-mul_right d (subst (λ (x : ℕ). a * d < x) scaled (ltb→lt (a * d) (k * c) t)))))
      (λ t. lt→ltb (a * d) (k * c) (subst (λ (x : ℕ). a * d < x) (sym scaled) (mul-lt-mul_of_pos_right ((div-lt_iff_lt-mul C).0 (ltb→lt (a / c) n t)) D)))

whole_below : (m : ℕ) (e : ℤ) (y : Float) (n : ℕ) → HasValue y false n 1 → lt (fin false m e) y ≡ ltb (m * up e / down e) n
unfolding lt
whole_below m e nan n v = absurd v
whole_below m e (inf t) n v = absurd v
whole_below m e (fin true k d) n v = absurd (true≢false v.0)
whole_below m e (fin false k d) n v = quotient_below (m * up e) (down e) (k * up d) (down d) n (down_pos e) (down_pos d) v.1

negative-below : (m : ℕ) (e : ℤ) (y : Float) (n : ℕ) → HasValue y false (suc n) 1 → lt (fin true m e) y ≡ true
unfolding lt
negative-below m e nan n v = absurd v
negative-below m e (inf t) n v = absurd v
negative-below m e (fin true k d) n v = absurd (true≢false v.0)
negative-below m e (fin false k d) n v =
    let p : 0 < k * up d = omega (arith, v.1, down_pos d) in
    let q = mul-pos p (down_pos e) in
    lt-ltb 0 (m * up e * down d + k * up d * down e) (omega arith)

infinity_above : (y : Float) (n : ℕ) → HasValue y false n 1 → lt (inf false) y ≡ false
unfolding lt
infinity_above nan n v = absurd v
infinity_above (inf t) n v = absurd v
infinity_above (fin t k d) n v = refl

-- ---- the rule at a float that is a / c in size
none : (t : (Option ℤ)) → table_rule 0 t ≡ unknown
unfolding table_rule
none (Some (pos n)) = rw (le-ltb n 0 (omega arith))
none (Some (negsuc n)) = refl
none None = refl

missed_rule : (size : ℕ) → size ≤ 513 → (t : (Option ℤ)) → Missed t → table_rule size t ≡ unknown
unfolding table_rule
missed_rule size h (Some (pos n)) k = rw (le-ltb n size (omega arith))
missed_rule size h (Some (negsuc n)) k = refl
missed_rule size h None k = refl

positive_rule : (size a c : ℕ) → size ≤ 513 → 0 < c → table_rule size (truncated_fraction false a c) ≡ cond (ltb (a / c) size) (word (a / c)) unknown
unfolding table_rule
positive_rule size a c h C = go (ltb a (2 ^ 63 * c)) (nltb→le a (2 ^ 63 * c))
  where
    far : 2 ^ 63 * c ≤ a → size ≤ a / c
    far g = le_trans (le_trans h (lit≤ tt)) ((le-div_iff_mul-le C).1 g)

    go : (b : Bool) → (T (not b) → 2 ^ 63 * c ≤ a) → table_rule size (cond b (Some (pos (a / c))) None) ≡ cond (ltb (a / c) size) (word (a / c)) unknown
    go true n = refl
    go false n = sym (ap (λ (b : Bool). cond b (word (a / c)) unknown) (le-ltb (a / c) size (far (n tt))))

-- ---- the test and the place
above_minus_one : (m : ℕ) (e : ℤ) → lt minus_one (fin false m e) ≡ true
unfolding lt
above_minus_one m e = lt-ltb 0 (1 * 1 * down e + m * up e * 1) (omega (arith, down_pos e))

empty_test : (v : Float) → in_table 0 v ≡ false
unfolding in_table size_limit
empty_test v =
    is_false (lt minus_one v && lt v minus_one)
    (not_T (lt minus_one v && lt v minus_one)
    (λ t. lt_irrefl_float minus_one (lt_lt minus_one v minus_one (and_l (lt minus_one v) (lt v minus_one) t) (and_r (lt minus_one v) (lt v minus_one) t))))

abbrev Looked : ℕ → Float → Type 0
Looked size v = table_rule size (truncated v) ≡ cond (in_table size v) (word (floor_of (clamp size v))) unknown

-- from 0 on: the test is that of the whole part, which is the place, raised or not
raised_place : (m : ℕ) (e : ℤ) → floor_of (at_least_zero (fin false m e)) ≡ m * up e / down e
unfolding lt
raised_place m e =
    by_cond (λ x. floor_of x ≡ m * up e / down e) (lt nought (fin false m e)) (fin false m e) nought (λ t. refl) (λ t. omega (arith, none-whole t))
  where
    none-whole : T (not (lt nought (fin false m e))) → m * up e / down e < 1
    none-whole t = (div-lt_iff_lt-mul (down_pos e)).1 (let l = nltb→le (0 * 1 * down e) (m * up e * 1) t in omega (arith, down_pos e))

positive_looked : (n m : ℕ) (e : ℤ) → suc n ≤ 513 → Looked (suc n) (fin false m e)
unfolding truncated in_table clamp
positive_looked n m e h =
    positive_rule (suc n) (m * up e) (down e) h (down_pos e)
    ∙ chosen (ltb (m * up e / down e) (suc n))
    ∙ sym (ap (λ (b : Bool). cond (b && ltb (m * up e / down e) (suc n))
    (word (floor_of (at_least_zero (cond (ltb (m * up e / down e) (suc n)) (fin false m e) nought)))) unknown) (above_minus_one m e))
    ∙ sym (ap (λ (b : Bool). cond (lt minus_one (fin false m e) && b) (word (floor_of (at_least_zero (cond b (fin false m e) nought)))) unknown)
    (whole_below m e (size_limit (suc n)) (suc n) (limit-value n h)))
  where
    chosen : (b : Bool) → cond b (word (m * up e / down e)) unknown ≡ cond b (word (floor_of (at_least_zero (cond b (fin false m e) nought)))) unknown
    chosen true = sym (ap word (raised_place m e))
    chosen false = refl

-- below 0: above -1 the number is 0, which is the place
negative_place : (size m : ℕ) (e : ℤ) → floor_of (clamp size (fin true m e)) ≡ 0
unfolding clamp lt
negative_place size m e = by_cond (λ x. floor_of (at_least_zero x) ≡ 0) (lt (fin true m e) (size_limit size)) (fin true m e) nought (λ t. refl) (λ t. refl)

near : (n m : ℕ) (e : ℤ) → T (lt minus_one (fin true m e)) → table_rule (suc n) (truncated (fin true m e)) ≡ word 0
unfolding lt truncated table_rule
near n m e t =
    let l = ltb→lt (m * up e * 1) (1 * 1 * down e) t in
    ap (table_rule (suc n)) (nothing true (m * up e) (down e) (omega arith))
    ∙ ap (λ (b : Bool). cond b (word 0) unknown) (lt-ltb 0 (suc n) (omega arith))

first_fails : (p q : Bool) → T (not p) → T (not (p && q))
first_fails true q t = absurd t
first_fails false q t = tt

away : (size : ℕ) → size ≤ 513 → (v : Float) → T (not (lt minus_one v)) → table_rule size (truncated v) ≡ unknown
unfolding of_bits
away size h v t = missed_rule size h (truncated v) (missed v (first_fails (lt minus_one v) (lt v table_end) t))

by_test : (b : Bool) (r x y : Rule) → (T b → r ≡ x) → (T (not b) → r ≡ y) → r ≡ cond b x y
by_test true r x y f g = f tt
by_test false r x y f g = g tt

negative_looked : (n m : ℕ) (e : ℤ) → suc n ≤ 513 → Looked (suc n) (fin true m e)
unfolding in_table
negative_looked n m e h =
    by_test (lt minus_one (fin true m e)) (table_rule (suc n) (truncated (fin true m e))) (word 0) unknown (near n m e) (away (suc n) h (fin true m e))
    ∙ sym (ap (λ (b : Bool). cond b (word 0) unknown) (and-true (lt minus_one (fin true m e))))
    ∙ sym (ap (λ (b : Bool). cond (lt minus_one (fin true m e) && b) (word 0) unknown) (negative-below m e (size_limit (suc n)) n (limit-value n h)))
    ∙ sym (ap (λ (k : ℕ). cond (in_table (suc n) (fin true m e)) (word k) unknown) (negative_place (suc n) m e))

looked : (size : ℕ) → size ≤ 513 → (v : Float) → Looked size v
unfolding lt truncated table_rule in_table
looked zero h v = none (truncated v) ∙ sym (ap (λ (b : Bool). cond b (word (floor_of (clamp 0 v))) unknown) (empty_test v))
looked (suc n) h nan = refl
looked (suc n) h (inf true) = refl
looked (suc n) h (inf false) =
    sym (ap (λ (b : Bool). cond b (word (floor_of (clamp (suc n) (inf false)))) unknown) (infinity_above (size_limit (suc n)) (suc n) (limit-value n h)))
looked (suc n) h (fin true m e) = negative_looked n m e h
looked (suc n) h (fin false m e) = positive_looked n m e h

-- ---- what is kept is a place of the array, and a place is one whose whole part can be read off
limit_le : (size : ℕ) → size ≤ 513 → T (le (size_limit size) array_end)
unfolding size_limit le lt eq
limit_le zero h = tt
limit_le (suc n) h = le_of_values (size_limit (suc n)) array_end (suc n) 1 513 1 (lit< tt) (lit< tt) (limit-value n h) (refl, refl) (omega arith)

pub kept_place : (size : ℕ) → size ≤ 513 → (v : Float) → T (is_index (clamp size v))
unfolding is_index clamp le lt eq
kept_place size h v =
    by_cond (λ x. T (is_index x)) (lt nought low) low nought (λ t. and_i (le nought low) (lt low array_end) (or_l (lt nought low) (eq nought low) t) under)
    (λ t. tt)
  where
    low : Float
    low = cond (lt v (size_limit size)) v nought

    under : T (lt low array_end)
    under = by_cond (λ x. T (lt x array_end)) (lt v (size_limit size)) v nought (λ t. lt_le v (size_limit size) array_end t (limit_le size h)) (λ t. tt)

module _ (x : Float) (p : T (is_index x)) where
  pub place_from : T (le nought x)
  unfolding is_index
  place_from = and_l (le nought x) (lt x array_end) p

  place_under : T (lt x array_end)
  unfolding is_index
  place_under = and_r (le nought x) (lt x array_end) p

  pub place_below : T (lt x (fin false 1 (pos 10)))
  unfolding lt
  place_below = lt_lt x array_end (fin false 1 (pos 10)) place_under tt

whole_in : (x : Float) → T (lt x array_end) → floor_of x < 513
unfolding lt
whole_in nan t = absurd t
whole_in (inf s) t = lit< tt
whole_in (fin true m e) t = lit< tt
whole_in (fin false m e) t = ltb→lt (m * up e / down e) 513 (subst T (whole_below m e array_end 513 (refl, refl)) t)

pub place_lt : (x : Float) → T (is_index x) → floor_of x < 513
place_lt x p = whole_in x (place_under x p)

-- ---- a word looked up first and replaced outside
pub chosen : (lookup : List ℕ) (size nodata : ℕ) → size ≤ 513 → (v : Float) → cond (in_table size v) (get_or lookup (floor_of (clamp size v)) 0) nodata
    ≡ table_color lookup size nodata v
unfolding table_color
chosen lookup size nodata h v = go (in_table size v) ∙ sym (ap (rule_color (categoric_rule_colors lookup [] nodata)) (looked size h v))
  where
    go : (b : Bool) → cond b (get_or lookup (floor_of (clamp size v)) 0) nodata ≡ rule_color (categoric_rule_colors lookup [] nodata)
        (cond b (word (floor_of (clamp size v))) unknown)
    go true = refl
    go false = refl

pub limit_above : (size : ℕ) → (size ≡ 0 → ⊥) → of_int binary32 (pos size) ≡ size_limit size
unfolding size_limit
limit_above zero h = absurd (h refl)
limit_above (suc n) h = refl
