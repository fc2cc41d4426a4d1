-- A tally: one count for each rule, by the rules' numbers. Definitions only.
use Rattle.std.specs.Prelude.{ℕ, suc, ◌+◌, ◌^◌, Bool, cond, List, [], ◌∷◌, eqb, ltb}
use Rattle.lists.specs.Each.{each}

-- how many of the numbers are k
unfoldable pub occurrences : (k : ℕ) → List ℕ → ℕ
occurrences k [] = 0
occurrences k (n ∷ ns) = cond (eqb n k) 1 0 + occurrences k ns

-- the counts, of which the first is that of the number k: each grows by as many of the numbers as are its own
unfoldable pub grown_from : (k : ℕ) (counts numbers : List ℕ) → List ℕ
grown_from k [] numbers = []
grown_from k (c ∷ cs) numbers = (c + occurrences k numbers) ∷ grown_from (suc k) cs numbers

-- the count at k is that of the number k
abbrev pub grown : (counts numbers : List ℕ) → List ℕ
grown counts numbers = grown_from 0 counts numbers

unfoldable pub sum : List ℕ → ℕ
sum [] = 0
sum (n ∷ ns) = n + sum ns

-- each count plus n fits 64 bits
unfoldable pub has_room : (counts : List ℕ) (n : ℕ) → Bool
has_room counts n = each (λ c. ltb (c + n) (2 ^ 64)) counts
