-- Which floats can meet a table of the words for 0 to 512: those above -1 and below 513. They are cut to their whole part, the negative
-- ones to 0. Any other is cut to nothing, to a negative number, or to more than 512. Assumes nothing.
use Rattle.std.specs.Prelude.{Option, Some, None}
use mathlib.Core.Path.{◌≡◌, sym, ap, ◌∙◌}
use mathlib.Core.Bool.{Bool, true, false, not, cond, ◌&&◌}
use Prim.Native.Nat.{ℕ, zero, suc, ◌+◌, ◌*◌, ◌/◌, ◌≤◌, ◌<◌, min}
use native.Mathlib.Nat.{div-lt_iff_lt-mul, le-div_iff_mul-le}
use native.Mathlib.Omega.{arith}
use lib.IntN.{ℤ, pos, negsuc, neg_ℤ}
use lib.Dec.{T, ltb, ltb→lt, lt→ltb, nltb→le, lit<}
use lib.Ieee.{Float, nan, inf, fin, binary32, up, down, of_bits, lt, to_unsigned}
use lib.Ieee.Fits.{down_pos}
use Rattle.cast.specs.Truncated.{signed, fraction_in_i64, truncated_fraction, truncated}
use Rattle.cast.proofs.Value.{nothing, inside}

-- -1 and 513
abbrev pub minus_one : Float
minus_one = of_bits binary32 0xBF80_0000

abbrev pub table_end : Float
table_end = of_bits binary32 0x4400_4000

-- ---- what the two tests say of a / c, the size of a float
above : (m : ℕ) (e : ℤ) → T (lt minus_one (fin true m e)) → m * up e < down e
unfolding of_bits lt
above m e h = let l = ltb→lt (m * up e * 1) (1 * 1 * down e) h in omega arith

below : (m : ℕ) (e : ℤ) → T (lt (fin false m e) table_end) → m * up e < 513 * down e
unfolding of_bits lt
below m e h = let l = ltb→lt (m * up e * 1) (513 * 1 * down e) h in omega arith

first_fails : (p q : Bool) → T q → T (not (p && q)) → T (not p)
first_fails true true u h = h
first_fails false q u h = tt
first_fails true false u h = elim u [ ]

second_fails : (p q : Bool) → T p → T (not (p && q)) → T (not q)
second_fails true q t h = h
second_fails false q t h = elim t [ ]

not_above : (m : ℕ) (e : ℤ) → T (not (lt minus_one (fin true m e) && lt (fin true m e) table_end)) → down e ≤ m * up e
unfolding of_bits lt
not_above m e h =
    let l = nltb→le (m * up e * 1) (1 * 1 * down e)
    (first_fails (ltb (m * up e * 1) (1 * 1 * down e)) (ltb 0 (m * up e * 1 + 513 * 1 * down e))
    (lt→ltb 0 (m * up e * 1 + 513 * 1 * down e) (omega (arith, down_pos e))) h) in
    omega arith

not_below : (m : ℕ) (e : ℤ) → T (not (lt minus_one (fin false m e) && lt (fin false m e) table_end)) → 513 * down e ≤ m * up e
unfolding of_bits lt
not_below m e h =
    let l = nltb→le (m * up e * 1) (513 * 1 * down e)
    (second_fails (ltb 0 (1 * 1 * down e + m * up e * 1)) (ltb (m * up e * 1) (513 * 1 * down e))
    (lt→ltb 0 (1 * 1 * down e + m * up e * 1) (omega (arith, down_pos e))) h) in
    omega arith

-- ---- above -1 and below 513
part_lt : (a c : ℕ) → 0 < c → a < 513 * c → a / c < 513
part_lt a c C h = (div-lt_iff_lt-mul C).1 h

uncapped : (n : ℕ) → n < 513 → min n 18446744073709551615 ≡ n
uncapped n h = omega arith

room : (a c : ℕ) → a < 513 * c → a < 9223372036854775808 * c
room a c h = omega arith

pub within : (x : Float) → T (lt minus_one x) → T (lt x table_end) → truncated x ≡ Some (pos (to_unsigned 64 x))
unfolding of_bits lt truncated to_unsigned
within nan h k = absurd h
within (inf true) h k = absurd h
within (inf false) h k = absurd k
within (fin true m e) h k = nothing true (m * up e) (down e) (above m e h)
within (fin false m e) h k =
    inside false (m * up e) (down e) (room (m * up e) (down e) (below m e k))
    ∙ sym (ap (λ (n : ℕ). Some (pos n)) (uncapped (m * up e / down e) (part_lt (m * up e) (down e) (down_pos e) (below m e k))))

pub within_lt : (x : Float) → T (lt minus_one x) → T (lt x table_end) → to_unsigned 64 x < 513
unfolding of_bits lt to_unsigned
within_lt nan h k = absurd h
within_lt (inf true) h k = absurd h
within_lt (inf false) h k = absurd k
within_lt (fin true m e) h k = lit< tt
within_lt (fin false m e) h k = let l = part_lt (m * up e) (down e) (down_pos e) (below m e k) in omega arith

-- ---- any other
abbrev pub Missed : Option ℤ → Type 0
Missed None = Unit
Missed (Some (pos n)) = 512 < n
Missed (Some (negsuc n)) = Unit

missed_cut : (s : Bool) (a c : ℕ) → Missed (Some (signed s (a / c))) → Missed (truncated_fraction s a c)
missed_cut s a c h = go (fraction_in_i64 s a c)
  where
    go : (b : Bool) → Missed (cond b (Some (signed s (a / c))) None)
    go true = h
    go false = tt

negative : (n : ℕ) → 1 ≤ n → Missed (Some (neg_ℤ (pos n)))
negative zero h = omega arith
negative (suc n) h = tt

pub missed : (x : Float) → T (not (lt minus_one x && lt x table_end)) → Missed (truncated x)
unfolding of_bits lt truncated
missed nan h = tt
missed (inf s) h = tt
missed (fin true m e) h =
    missed_cut true (m * up e) (down e) (negative (m * up e / down e) ((le-div_iff_mul-le (down_pos e)).1 (let l = not_above m e h in omega arith)))
missed (fin false m e) h = missed_cut false (m * up e) (down e) ((le-div_iff_mul-le (down_pos e)).1 (not_below m e h))
