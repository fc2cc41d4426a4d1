-- A form of the code: seven counts in one number, as its digits in base 512. A sample adds the weight of its slot, and the digits are taken apart once for at
-- most 511 samples. That this is `grown` is proofs/Packing.antt (unpacked, spread_totals). Definitions only.
use Rattle.std.specs.Prelude.{ℕ, zero, suc, ◌+◌, ◌/◌, ◌%◌, ◌^◌, List, [], ◌∷◌, get_or}

-- the weight of a slot, 0 to 6
abbrev pub weight : (slot : ℕ) → ℕ
weight slot = 512 ^ slot

-- the weights of codes, by a table of weights
unfoldable pub weight_sum : (weights codes : List ℕ) → ℕ
weight_sum weights [] = 0
weight_sum weights (c ∷ cs) = get_or weights c 0 + weight_sum weights cs

-- the weights of slots
unfoldable pub packed : (slots : List ℕ) → ℕ
packed [] = 0
packed (s ∷ ss) = weight s + packed ss

-- each total grows by a digit, from the lowest on
unfoldable pub digits_added : (totals : List ℕ) (number : ℕ) → List ℕ
digits_added [] number = []
digits_added (t ∷ ts) number = (t + number % 512) ∷ digits_added ts (number / 512)

-- the count at k grows by n
unfoldable pub count_added : (counts : List ℕ) (k n : ℕ) → List ℕ
count_added [] k n = []
count_added (c ∷ cs) zero n = (c + n) ∷ cs
count_added (c ∷ cs) (suc k) n = c ∷ count_added cs k n

-- each slot's total goes to the count of the slot's rule
unfoldable pub spread : (counts rules totals : List ℕ) → List ℕ
spread counts [] totals = counts
spread counts (r ∷ rs) [] = counts
spread counts (r ∷ rs) (t ∷ ts) = spread (count_added counts r t) rs ts
