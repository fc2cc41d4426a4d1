-- The table of palettes: where each begins, how many colours it has, and that the table's part there is the palette, each by one computed test over the table.
-- Assumes nothing.
use mathlib.Core.Path.{◌≡◌, sym, ap, ◌∙◌, subst}
use mathlib.Core.Bool.{Bool, true, ◌&&◌}
use mathlib.Core.List.{List, [], ◌∷◌, ◌++◌, flatten}
use Prim.Native.Nat.{ℕ, zero, suc, ◌+◌, ◌≤◌, ◌<◌}
use native.Mathlib.Nat.{le_of_suc-le-suc, not-suc-le-zero, add_assoc, zero-add}
use native.Mathlib.Omega.{arith}
use lib.Dec.{T, leb, eqb, eqb→eq, leb→le}
use lib.Ieee.Fits.{and_l, and_r}
use lib.ListN.{length, get_or, take, length-append, get_or-append, get_or-eq_default}
use lib.Seq.{get_or-append-add}
use mathlib.Core.Logic.{inl, inr}
use Rattle.lists.proofs.Numbers.{lt_or_le}
use Rattle.palettes.specs.Palettes.{palettes, palette, palette_table, offset}

-- a test at each place of a list, the first being i
abbrev pub every : (ℕ → ℕ → Bool) → ℕ → List ℕ → Bool
every f i [] = true
every f i (x ∷ xs) = f i x && every f (suc i) xs

from : (f : ℕ → ℕ → Bool) (i : ℕ) (xs : List ℕ) → T (every f i xs) → (k : ℕ) → k < length xs → T (f (i + k) (get_or xs k 0))
from f i [] t k h = absurd (not-suc-le-zero h)
from f i (x ∷ xs) t zero h = subst (λ (m : ℕ). T (f m x)) (omega arith) (and_l (f i x) (every f (suc i) xs) t)
from f i (x ∷ xs) t (suc k) h =
    subst (λ (m : ℕ). T (f m (get_or xs k 0))) (omega arith) (from f (suc i) xs (and_r (f i x) (every f (suc i) xs) t) k (le_of_suc-le-suc h))

-- the entries of a list are what g gives at their places
pub read : (g : ℕ → ℕ) (xs : List ℕ) → T (every (λ k x. eqb x (g k)) 0 xs) → (k : ℕ) → k < length xs → get_or xs k 0 ≡ g k
read g xs t k h = eqb→eq (get_or xs k 0) (g k) (subst (λ (m : ℕ). T (eqb (get_or xs k 0) (g m))) (omega arith) (from (λ k x. eqb x (g k)) 0 xs t k h))

-- beyond the last number there are no colours
pub none : (number : ℕ) → 31 < number → palette number ≡ []
unfolding palettes
none number h = get_or-eq_default palettes [] h

-- a palette that has colours has a number up to 31
pub known : (number i : ℕ) → i < length (palette number) → number < 32
known number i h = elim (lt_or_le number 32) [ inl l ↦ l | inr l ↦ absurd (not-suc-le-zero (subst (λ (n : ℕ). i < n) (ap length (none number l)) h)) ]

-- a list of lists, one after the other: where the n-th stands
begins : (ls : List (List ℕ)) (n : ℕ) → ℕ
begins ls n = length (flatten (take n ls))

part : (ls : List (List ℕ)) (n i : ℕ) → n < length ls → i < length (get_or ls n []) → get_or (flatten ls) (begins ls n + i) 0 ≡ get_or (get_or ls n []) i 0
unfolding begins flatten
part [] n i h k = absurd (not-suc-le-zero h)
part (l ∷ ls) zero i h k = ap (λ (m : ℕ). get_or (l ++ flatten ls) m 0) (zero-add i) ∙ get_or-append l (flatten ls) 0 i k
part (l ∷ ls) (suc n) i h k =
    ap (λ (m : ℕ). get_or (l ++ flatten ls) m 0)
    (ap (λ (m : ℕ). m + i) (length-append l (flatten (take n ls))) ∙ add_assoc (length l) (length (flatten (take n ls))) i)
    ∙ get_or-append-add l (flatten ls) (length (flatten (take n ls)) + i) 0 ∙ part ls n i (le_of_suc-le-suc h) k

room : (ls : List (List ℕ)) (n : ℕ) → n < length ls → begins ls n + length (get_or ls n []) ≤ length (flatten ls)
unfolding begins flatten
room [] n h = absurd (not-suc-le-zero h)
room (l ∷ ls) zero h = omega (arith, length-append l (flatten ls))
room (l ∷ ls) (suc n) h = omega (arith, length-append l (flatten ls), length-append l (flatten (take n ls)), room ls n (le_of_suc-le-suc h))

module _ (number : ℕ) (h : number < 32) where
  pub in_table : (i : ℕ) → i < length (palette number) → get_or palette_table (offset number + i) 0 ≡ get_or (palette number) i 0
  unfolding palette_table offset begins
  in_table i k = part palettes number i (unfold palettes in h) k

  pub offset_room : offset number + length (palette number) ≤ 304
  unfolding offset begins palettes flatten
  offset_room = room palettes number h

-- the numbers of the code's two tables are those of the lists
pub lengths_are : (number : ℕ) → number < 32
    → get_or (9 ∷ 11 ∷ 9 ∷ 9 ∷ 9 ∷ 9 ∷ 9 ∷ 9 ∷ 9 ∷ 11 ∷ 11 ∷ 9 ∷ 9 ∷ 11 ∷ 9 ∷ 9 ∷ 9 ∷ 11 ∷ 9 ∷ 11 ∷ 11 ∷ 9 ∷ 11 ∷ 9 ∷ 9 ∷ 9 ∷ 9 ∷ 8 ∷ 8 ∷ 12 ∷ 9 ∷ 8 ∷ []) number
    0 ≡ length (palette number)
unfolding palettes
lengths_are number h =
    read (λ k. length (palette k)) (9 ∷ 11 ∷ 9 ∷ 9 ∷ 9 ∷ 9 ∷ 9 ∷ 9 ∷ 9 ∷ 11 ∷ 11 ∷ 9 ∷ 9 ∷ 11 ∷ 9 ∷ 9 ∷ 9 ∷ 11 ∷ 9 ∷ 11 ∷ 11 ∷ 9 ∷ 11 ∷ 9 ∷ 9 ∷ 9 ∷ 9 ∷ 8 ∷ 8 ∷
    12 ∷ 9 ∷ 8 ∷ []) tt number h

pub offsets_are : (number : ℕ) → number < 32
    → get_or (0 ∷ 9 ∷ 20 ∷ 29 ∷ 38 ∷ 47 ∷ 56 ∷ 65 ∷ 74 ∷ 83 ∷ 94 ∷ 105 ∷ 114 ∷ 123 ∷ 134 ∷ 143 ∷ 152 ∷ 161 ∷ 172 ∷ 181 ∷ 192 ∷ 203 ∷ 212 ∷ 223 ∷ 232 ∷ 241 ∷ 250 ∷
    259 ∷ 267 ∷ 275 ∷ 287 ∷ 296 ∷ []) number 0 ≡ offset number
unfolding palettes offset flatten
offsets_are number h =
    read offset (0 ∷ 9 ∷ 20 ∷ 29 ∷ 38 ∷ 47 ∷ 56 ∷ 65 ∷ 74 ∷ 83 ∷ 94 ∷ 105 ∷ 114 ∷ 123 ∷ 134 ∷ 143 ∷ 152 ∷ 161 ∷ 172 ∷ 181 ∷ 192 ∷ 203 ∷ 212 ∷ 223 ∷ 232 ∷ 241 ∷
    250 ∷ 259 ∷ 267 ∷ 275 ∷ 287 ∷ 296 ∷ []) tt number h

-- every palette has 8 to 12 colours
pub sizes : (number : ℕ) → number < 32 → (8 ≤ length (palette number)) × (length (palette number) ≤ 12)
unfolding palettes
sizes number h =
    let xs : List ℕ = 9 ∷ 11 ∷ 9 ∷ 9 ∷ 9 ∷ 9 ∷ 9 ∷ 9 ∷ 9 ∷ 11 ∷ 11 ∷ 9 ∷ 9 ∷ 11 ∷ 9 ∷ 9 ∷ 9 ∷ 11 ∷ 9 ∷ 11 ∷ 11 ∷ 9 ∷ 11 ∷ 9 ∷ 9 ∷ 9 ∷ 9 ∷ 8 ∷ 8 ∷ 12 ∷ 9 ∷ 8 ∷
    [] in
    let t : T (leb 8 (get_or xs number 0) && leb (get_or xs number 0) 12) = from (λ k x. leb 8 x && leb x 12) 0 xs tt number h in
    let e = lengths_are number h in (
      subst (λ (n : ℕ). 8 ≤ n) e (leb→le 8 (get_or xs number 0) (and_l (leb 8 (get_or xs number 0)) (leb (get_or xs number 0) 12) t)),
      subst (λ (n : ℕ). n ≤ 12) e
          (leb→le (get_or xs number 0) 12 (and_r (leb 8 (get_or xs number 0)) (leb (get_or xs number 0) 12) t)),
    )

pub size_le : (number : ℕ) → length (palette number) ≤ 12
size_le number = elim (lt_or_le number 32) [ inl l ↦ (sizes number l).1 | inr l ↦ subst (λ (xs : List ℕ). length xs ≤ 12) (sym (none number l)) (omega arith) ]
