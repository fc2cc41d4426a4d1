-- Counts that grow by numbers (`grown`): number after number, list after list, their length, their sum and their entries. Assumes nothing.
use Prim.Native.Nat.{ℕ, zero, suc, ◌+◌, ◌≤◌, ◌<◌}
use mathlib.Core.Path.{◌≡◌, refl, sym, ap, ◌∙◌}
use mathlib.Core.Bool.{Bool, true, false, cond}
use mathlib.Core.List.{List, [], ◌∷◌, ◌++◌}
use mathlib.Core.Logic.{inl, inr}
use native.Mathlib.Nat.{add-zero}
use native.Mathlib.Omega.{arith}
use borrow.Author.Tests.{eq-eqb, ne_eqb}
use lib.Dec.{eqb}
use lib.ListN.{length, get_or, replicate, length-replicate, get_or-eq_default}
use Rattle.lists.proofs.Numbers.{lt_or_le}
use Rattle.tally.specs.Counts.{occurrences, grown_from, grown, sum}
use Rattle.tally.specs.forms.Packed.{count_added}
use Rattle.tally.proofs.Adding.{cons_same, added_sum}

-- each of the numbers is below n
abbrev pub Below : (n : ℕ) (numbers : List ℕ) → Type 0
Below n numbers = (k : ℕ) → k < length numbers → get_or numbers k 0 < n

pub below_tail : (n x : ℕ) (xs : List ℕ) → Below n (x ∷ xs) → Below n xs
below_tail n x xs b k h = b (suc k) (omega arith)

pub occurrences-append : (k : ℕ) (xs ys : List ℕ) → occurrences k (xs ++ ys) ≡ occurrences k xs + occurrences k ys
unfolding occurrences
occurrences-append k [] ys = omega arith
occurrences-append k (x ∷ xs) ys = omega (arith, occurrences-append k xs ys)

-- 1 where a test holds
abbrev one : Bool → ℕ
one b = cond b 1 0

one_at_most : (b : Bool) → one b ≤ 1
one_at_most true = omega arith
one_at_most false = omega arith

pub occurrences_bound : (k : ℕ) (xs : List ℕ) → occurrences k xs ≤ length xs
unfolding occurrences
occurrences_bound k [] = omega arith
occurrences_bound k (x ∷ xs) = omega (arith, occurrences_bound k xs, one_at_most (eqb x k))

pub occurrences-own : (k : ℕ) (xs : List ℕ) → occurrences k (k ∷ xs) ≡ suc (occurrences k xs)
unfolding occurrences
occurrences-own k xs = omega (arith, ap one (eq-eqb k k refl))

pub occurrences_other : (k x : ℕ) (xs : List ℕ) → (x ≡ k → ⊥) → occurrences k (x ∷ xs) ≡ occurrences k xs
unfolding occurrences
occurrences_other k x xs h = omega (arith, ap one (ne_eqb x k h))

-- ---- list after list
pub grown_from-append : (k : ℕ) (counts xs ys : List ℕ) → grown_from k (grown_from k counts xs) ys ≡ grown_from k counts (xs ++ ys)
unfolding grown_from
grown_from-append k [] xs ys = refl
grown_from-append k (c ∷ cs) xs ys = cons_same (omega (arith, occurrences-append k xs ys)) (grown_from-append (suc k) cs xs ys)

pub grown-append : (counts xs ys : List ℕ) → grown (grown counts xs) ys ≡ grown counts (xs ++ ys)
grown-append counts xs ys = grown_from-append 0 counts xs ys

pub grown_from-none : (k : ℕ) (counts : List ℕ) → grown_from k counts [] ≡ counts
unfolding grown_from occurrences
grown_from-none k [] = refl
grown_from-none k (c ∷ cs) = cons_same (omega arith) (grown_from-none (suc k) cs)

pub grown-none : (counts : List ℕ) → grown counts [] ≡ counts
grown-none counts = grown_from-none 0 counts

pub grown_from-length : (k : ℕ) (counts xs : List ℕ) → length (grown_from k counts xs) ≡ length counts
unfolding grown_from
grown_from-length k [] xs = refl
grown_from-length k (c ∷ cs) xs = ap suc (grown_from-length (suc k) cs xs)

pub grown-length : (counts xs : List ℕ) → length (grown counts xs) ≡ length counts
grown-length counts xs = grown_from-length 0 counts xs

-- counts that start from 0
pub zeros_grown-length : (n : ℕ) (xs : List ℕ) → length (grown (replicate n 0) xs) ≡ n
zeros_grown-length n xs = grown-length (replicate n 0) xs ∙ length-replicate n 0

-- ---- the entries
moved : (j k : ℕ) → suc j + k ≡ j + suc k
moved j k = omega arith

pub grown_from_at : (j : ℕ) (counts xs : List ℕ) (k : ℕ) → k < length counts → get_or (grown_from j counts xs) k 0 ≡ get_or counts k 0 + occurrences (j + k) xs
unfolding grown_from
grown_from_at j [] xs k h = absurd (omega arith)
grown_from_at j (c ∷ cs) xs zero h = ap (λ (i : ℕ). c + occurrences i xs) (sym (add-zero j))
grown_from_at j (c ∷ cs) xs (suc k) h =
    grown_from_at (suc j) cs xs k (omega arith) ∙ ap (λ (i : ℕ). get_or cs k 0 + occurrences i xs) (moved j k)

pub grown_at : (counts xs : List ℕ) (k : ℕ) → k < length counts → get_or (grown counts xs) k 0 ≡ get_or counts k 0 + occurrences k xs
grown_at counts xs k h = let e : 0 + k ≡ k = omega arith in grown_from_at 0 counts xs k h ∙ ap (λ (i : ℕ). get_or counts k 0 + occurrences i xs) e

pub grown_bound : (counts xs : List ℕ) (k : ℕ) → get_or (grown counts xs) k 0 ≤ get_or counts k 0 + length xs
grown_bound counts xs k =
    elim (lt_or_le k (length counts)) [
      | inl h ↦ omega (arith, grown_at counts xs k h, occurrences_bound k xs)
      | inr h ↦ omega (arith, get_or-eq_default (grown counts xs) 0 {n = k} (omega (arith, grown-length counts xs)))
    ]

-- ---- number after number
-- a number below the first count's own has no count here
grown-past : (k : ℕ) (counts : List ℕ) (x : ℕ) (xs : List ℕ) → x < k → grown_from k counts (x ∷ xs) ≡ grown_from k counts xs
unfolding grown_from
grown-past k [] x xs h = refl
grown-past k (c ∷ cs) x xs h =
    cons_same (ap (λ (n : ℕ). c + n) (occurrences_other k x xs (λ e. omega arith))) (grown-past (suc k) cs x xs (omega arith))

grown_from_more : (k : ℕ) (counts : List ℕ) (x : ℕ) (xs : List ℕ) → grown_from k counts ((k + x) ∷ xs) ≡ count_added (grown_from k counts xs) x 1
unfolding grown_from count_added
grown_from_more k [] x xs = refl
grown_from_more k (c ∷ cs) zero xs =
    ap (λ (n : ℕ). grown_from k (c ∷ cs) (n ∷ xs)) (add-zero k)
    ∙ cons_same (omega (arith, occurrences-own k xs)) (grown-past (suc k) cs k xs (omega arith))
grown_from_more k (c ∷ cs) (suc x) xs =
    cons_same (ap (λ (n : ℕ). c + n) (occurrences_other k (k + suc x) xs (λ e. omega arith)))
    (ap (λ (n : ℕ). grown_from (suc k) cs (n ∷ xs)) (sym (moved k x)) ∙ grown_from_more (suc k) cs x xs)

pub grown_more : (counts : List ℕ) (x : ℕ) (xs : List ℕ) → grown counts (x ∷ xs) ≡ count_added (grown counts xs) x 1
grown_more counts x xs = let e : x ≡ 0 + x = omega arith in ap (λ (n : ℕ). grown counts (n ∷ xs)) e ∙ grown_from_more 0 counts x xs

-- ---- the sum
pub grown-sum : (counts xs : List ℕ) → Below (length counts) xs → sum (grown counts xs) ≡ sum counts + length xs
grown-sum counts [] b = ap sum (grown-none counts) ∙ sym (add-zero (sum counts))
grown-sum counts (x ∷ xs) b =
    let inside : x < length (grown counts xs) = omega (arith, grown-length counts xs, b 0 (omega arith)) in
    ap sum (grown_more counts x xs) ∙ omega (arith, added_sum (grown counts xs) x 1 inside, grown-sum counts xs (below_tail (length counts) x xs b))

zeros_sum : (n : ℕ) → sum (replicate n 0) ≡ 0
unfolding sum
zeros_sum zero = refl
zeros_sum (suc n) = omega (arith, zeros_sum n)

pub sum_zeros_grown : (n : ℕ) (xs : List ℕ) → Below n xs → sum (grown (replicate n 0) xs) ≡ length xs
sum_zeros_grown n xs b =
    omega (arith, zeros_sum n, grown-sum (replicate n 0) xs (λ k h. omega (arith, length-replicate {A = ℕ} n 0, b k h)))
