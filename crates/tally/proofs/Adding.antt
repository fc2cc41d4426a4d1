-- A list of counts of which one grows (`count_added`): its length, its sum, its entries, nothing added, and one growth after another. Assumes nothing.
use Prim.Native.Nat.{ℕ, zero, suc, ◌+◌, ◌≤◌, ◌<◌}
use mathlib.Core.Path.{◌≡◌, refl, ap, ap₂}
use mathlib.Core.List.{List, [], ◌∷◌}
use native.Mathlib.Omega.{arith}
use lib.ListN.{length, get_or, set}
use Rattle.tally.specs.Counts.{sum}
use Rattle.tally.specs.forms.Packed.{count_added}

-- two lists that begin alike
pub cons_same : {c d : ℕ} {cs ds : List ℕ} → c ≡ d → cs ≡ ds → c ∷ cs ≡ d ∷ ds
cons_same p q = ap₂ (λ (n : ℕ) (ns : List ℕ). n ∷ ns) p q

pub added_length : (counts : List ℕ) (k n : ℕ) → length (count_added counts k n) ≡ length counts
unfolding count_added
added_length [] k n = refl
added_length (c ∷ cs) zero n = refl
added_length (c ∷ cs) (suc k) n = ap suc (added_length cs k n)

pub added_sum : (counts : List ℕ) (k n : ℕ) → k < length counts → sum (count_added counts k n) ≡ sum counts + n
unfolding count_added sum
added_sum [] k n h = absurd (omega arith)
added_sum (c ∷ cs) zero n h = omega arith
added_sum (c ∷ cs) (suc k) n h = omega (arith, added_sum cs k n (omega arith))

-- no entry grows by more
pub added_bound : (counts : List ℕ) (k n j : ℕ) → get_or (count_added counts k n) j 0 ≤ get_or counts j 0 + n
unfolding count_added
added_bound [] k n j = omega arith
added_bound (c ∷ cs) zero n zero = omega arith
added_bound (c ∷ cs) zero n (suc j) = omega arith
added_bound (c ∷ cs) (suc k) n zero = omega arith
added_bound (c ∷ cs) (suc k) n (suc j) = added_bound cs k n j

pub added_none : (counts : List ℕ) (k : ℕ) → count_added counts k 0 ≡ counts
unfolding count_added
added_none [] k = refl
added_none (c ∷ cs) zero = cons_same (omega arith) refl
added_none (c ∷ cs) (suc k) = ap (λ (ns : List ℕ). c ∷ ns) (added_none cs k)

-- at one count, one growth after another
pub added_more : (counts : List ℕ) (k n m : ℕ) → count_added counts k (n + m) ≡ count_added (count_added counts k n) k m
unfolding count_added
added_more [] k n m = refl
added_more (c ∷ cs) zero n m = cons_same (omega arith) refl
added_more (c ∷ cs) (suc k) n m = ap (λ (ns : List ℕ). c ∷ ns) (added_more cs k n m)

-- at any two counts, in either order
pub added_swap : (counts : List ℕ) (k n j m : ℕ) → count_added (count_added counts k n) j m ≡ count_added (count_added counts j m) k n
unfolding count_added
added_swap [] k n j m = refl
added_swap (c ∷ cs) zero n zero m = cons_same (omega arith) refl
added_swap (c ∷ cs) zero n (suc j) m = refl
added_swap (c ∷ cs) (suc k) n zero m = refl
added_swap (c ∷ cs) (suc k) n (suc j) m = ap (λ (ns : List ℕ). c ∷ ns) (added_swap cs k n j m)

-- as a store
pub set_added : (counts : List ℕ) (k n : ℕ) → set counts k (get_or counts k 0 + n) ≡ count_added counts k n
unfolding count_added
set_added [] k n = refl
set_added (c ∷ cs) zero n = refl
set_added (c ∷ cs) (suc k) n = ap (λ (ns : List ℕ). c ∷ ns) (set_added cs k n)
