-- Seven counts in one number: its digits are the slots' counts, and the slots' totals go to the counts of their rules. Assumes nothing.
use Prim.Native.Nat.{ℕ, zero, suc, ◌+◌, ◌*◌, ◌/◌, ◌%◌, ◌^◌, ◌≤◌, ◌<◌}
use mathlib.Core.Path.{◌≡◌, refl, sym, ap, ap₂, ◌∙◌}
use mathlib.Core.List.{List, [], ◌∷◌, ◌++◌, map}
use native.Mathlib.Nat.{pow-zero, pow-suc}
use native.Mathlib.Omega.{arith}
use lib.ListN.{length, get_or, replicate}
use Rattle.tally.specs.Counts.{occurrences, grown_from, grown}
use Rattle.tally.specs.forms.Packed.{weight, weight_sum, packed, digits_added, count_added, spread}
use Rattle.tally.proofs.Adding.{cons_same, added_none, added_more, added_swap}
use Rattle.tally.proofs.Growing.{Below, below_tail, occurrences_bound, grown-none, zeros_grown-length, grown_more}

-- ---- the weights of codes
module _ (weights : List ℕ) where
  pub packed_of_weights : (slot : ℕ → ℕ) (codes : List ℕ) → ((k : ℕ) → k < length codes → get_or weights (get_or codes k 0) 0 ≡ weight (slot (get_or codes k 0)))
      → weight_sum weights codes ≡ packed (map slot codes)
  unfolding weight_sum packed
  packed_of_weights slot [] h = refl
  packed_of_weights slot (c ∷ cs) h = ap₂ ◌+◌ (h 0 (omega arith)) (packed_of_weights slot cs (λ k q. h (suc k) (omega arith)))

  pub weight-sum-append : (xs ys : List ℕ) → weight_sum weights (xs ++ ys) ≡ weight_sum weights xs + weight_sum weights ys
  unfolding weight_sum
  weight-sum-append [] ys = omega arith
  weight-sum-append (x ∷ xs) ys = omega (arith, weight-sum-append xs ys)

  pub weight-sum_bound : (codes : List ℕ) → ((c : ℕ) → get_or weights c 0 ≤ 512 ^ 6) → weight_sum weights codes ≤ length codes * 512 ^ 6
  unfolding weight_sum
  weight-sum_bound [] h = omega arith
  weight-sum_bound (c ∷ cs) h = omega (arith, h c, weight-sum_bound cs h)

  -- as many codes as a digit counts
  pub weight-sum_fits : (codes : List ℕ) → ((c : ℕ) → get_or weights c 0 ≤ 512 ^ 6) → length codes ≤ 511 → weight_sum weights codes < 2 ^ 64
  weight-sum_fits codes h l = omega (arith, weight-sum_bound codes h)

-- ---- the digits of a number
-- the number that has these digits, from the lowest on
unfoldable of_digits : List ℕ → ℕ
of_digits [] = 0
of_digits (d ∷ ds) = d + 512 * of_digits ds

digit_more : (ds : List ℕ) (s : ℕ) → s < length ds → of_digits (count_added ds s 1) ≡ weight s + of_digits ds
unfolding of_digits count_added
digit_more [] s h = absurd (omega arith)
digit_more (d ∷ ds) zero h = omega (arith, pow-zero 512)
digit_more (d ∷ ds) (suc s) h = omega (arith, pow-suc 512 s, digit_more ds s (omega arith))

zeros_digits : (n : ℕ) → of_digits (replicate n 0) ≡ 0
unfolding of_digits
zeros_digits zero = refl
zeros_digits (suc n) = omega (arith, zeros_digits n)

-- the counts of the slots are the digits
packed-digits : (n : ℕ) (slots : List ℕ) → Below n slots → packed slots ≡ of_digits (grown (replicate n 0) slots)
unfolding packed
packed-digits n [] b = sym (ap of_digits (grown-none (replicate n 0)) ∙ zeros_digits n)
packed-digits n (s ∷ ss) b =
    let inside : s < length (grown (replicate n 0) ss) = omega (arith, zeros_grown-length n ss, b 0 (omega arith)) in
    ap (λ (m : ℕ). weight s + m) (packed-digits n ss (below_tail n s ss b))
    ∙ sym (ap of_digits (grown_more (replicate n 0) s ss) ∙ digit_more (grown (replicate n 0) ss) s inside)

lowest : (d rest : ℕ) → d ≤ 511 → (d + 512 * rest) % 512 ≡ d
lowest d rest h = omega arith

others : (d rest : ℕ) → d ≤ 511 → (d + 512 * rest) / 512 ≡ rest
others d rest h = omega arith

-- where none is above 511, the digits are taken apart again
digits_added_lem : (k : ℕ) (totals slots : List ℕ) → length slots ≤ 511
    → digits_added totals (of_digits (grown_from k (replicate (length totals) 0) slots)) ≡ grown_from k totals slots
unfolding digits_added of_digits grown_from
digits_added_lem k [] slots h = refl
digits_added_lem k (t ∷ ts) slots h =
    let rest = of_digits (grown_from (suc k) (replicate (length ts) 0) slots) in
    let few : 0 + occurrences k slots ≤ 511 = omega (arith, occurrences_bound k slots) in
    cons_same (omega (arith, lowest (0 + occurrences k slots) rest few))
    (ap (digits_added ts) (others (0 + occurrences k slots) rest few) ∙ digits_added_lem (suc k) ts slots h)

pub unpacked : (totals slots : List ℕ) → Below (length totals) slots → length slots ≤ 511 → digits_added totals (packed slots) ≡ grown totals slots
unpacked totals slots b h = ap (digits_added totals) (packed-digits (length totals) slots b) ∙ digits_added_lem 0 totals slots h

-- ---- the totals of slots, to the counts of their rules
spread_none : (counts rules : List ℕ) → spread counts rules (replicate (length rules) 0) ≡ counts
unfolding spread
spread_none counts [] = refl
spread_none counts (r ∷ rs) = ap (λ (cs : List ℕ). spread cs rs (replicate (length rs) 0)) (added_none counts r) ∙ spread_none counts rs

-- a growth before or after
spread_added : (counts rules totals : List ℕ) (k n : ℕ) → spread (count_added counts k n) rules totals ≡ count_added (spread counts rules totals) k n
unfolding spread
spread_added counts [] totals k n = refl
spread_added counts (r ∷ rs) [] k n = refl
spread_added counts (r ∷ rs) (t ∷ ts) k n =
    ap (λ (cs : List ℕ). spread cs rs ts) (added_swap counts k n r t) ∙ spread_added (count_added counts r t) rs ts k n

-- a total that grows
spread_more : (counts rules totals : List ℕ) (s n : ℕ) → s < length rules → s < length totals
    → spread counts rules (count_added totals s n) ≡ count_added (spread counts rules totals) (get_or rules s 0) n
unfolding spread count_added
spread_more counts [] totals s n h g = absurd (omega arith)
spread_more counts (r ∷ rs) [] s n h g = absurd (omega arith)
spread_more counts (r ∷ rs) (t ∷ ts) zero n h g =
    ap (λ (cs : List ℕ). spread cs rs ts) (added_more counts r t n) ∙ spread_added (count_added counts r t) rs ts r n
spread_more counts (r ∷ rs) (t ∷ ts) (suc s) n h g = spread_more (count_added counts r t) rs ts s n (omega arith) (omega arith)

pub spread_totals : (counts rules slots : List ℕ) → Below (length rules) slots
    → spread counts rules (grown (replicate (length rules) 0) slots) ≡ grown counts (map (λ s. get_or rules s 0) slots)
spread_totals counts rules [] b =
    ap (spread counts rules) (grown-none (replicate (length rules) 0)) ∙ spread_none counts rules ∙ sym (grown-none counts)
spread_totals counts rules (s ∷ ss) b =
    let zeros : List ℕ = replicate (length rules) 0 in
    let h = b 0 (omega arith) in
    ap (spread counts rules) (grown_more zeros s ss)
    ∙ spread_more counts rules (grown zeros ss) s 1 h (omega (arith, h, zeros_grown-length (length rules) ss))
    ∙ ap (λ (cs : List ℕ). count_added cs (get_or rules s 0) 1) (spread_totals counts rules ss (below_tail (length rules) s ss b))
    ∙ sym (grown_more counts (get_or rules s 0) (map (λ r. get_or rules r 0) ss))
