-- Rows: words laid over one, and the first place in which two differ. Assumes nothing.
use mathlib.Core.Bool.{Bool, true, false, cond}
use mathlib.Core.List.{List, ◌++◌}
use mathlib.Core.Logic.{inl, inr}
use mathlib.Core.Path.{◌≡◌, refl, sym, ap, ◌∙◌}
use Prim.Native.Nat.{ℕ, zero, suc, ◌+◌, ◌≤◌, ◌<◌}
use native.Mathlib.Omega.{arith}
use borrow.Author.Tests.{eqb-true, eq-eqb, ne_eqb}
use lib.Dec.{eqb}
use lib.ListN.{length, get_or, take, drop, replicate, length-drop}
use lib.Seq.{length-take-le, get_or-take, get_or-drop, drop-drop, ext_get_or}
use Rattle.lists.proofs.Numbers.{lt_or_le}
use Rattle.lists.specs.Padded.{padded}
use Rattle.lists.proofs.Tabulated.{tabulated}
use Rattle.replay_rows.proofs.Stored.{stored_front}
use Rattle.replay_rows.specs.Parts.{words_at, put_at, differ_from, first_difference}

-- ---- parts of a row
pub words_part : (from n m : ℕ) (row : List ℕ) → m ≡ n → from + n ≤ length row → take m (drop from row) ≡ words_at from n row
words_part from n m row e h =
    ap (λ (k : ℕ). take k (drop from row)) e
    ∙ tabulated 0 n (λ k. get_or row (from + k) 0) (take n (drop from row)) (length-take-le n (drop from row) (omega (arith, length-drop from row)))
    (λ k q. get_or-take n (drop from row) k 0 q ∙ get_or-drop from row k 0)

-- what a row asks, over zeros
pub asked_over : (row : List ℕ) → 128 ≤ length row → take 128 row ++ drop 128 (replicate 1680 0) ≡ padded 0 1680 (words_at 0 128 row)
asked_over row h =
    ap (λ (r : List ℕ). r ++ drop 128 (replicate 1680 0)) (words_part 0 128 128 row refl h)
    ∙ sym (stored_front 0 1680 (λ k. get_or row (0 + k) 0) 128)

-- words laid over a row
pub laid_over : (from n : ℕ) (words row : List ℕ) → n ≡ length words → take from row ++ (words ++ drop n (drop from row)) ≡ put_at from words row
unfolding put_at
laid_over from n words row e =
    ap (λ (r : List ℕ). take from row ++ (words ++ r)) (drop-drop n from row ∙ ap (λ (k : ℕ). drop (from + k) row) e)

-- ---- the first difference
module _ (a b : List ℕ) where
  differ_here : (i n : ℕ) → (get_or a i 0 ≡ get_or b i 0 → ⊥) → differ_from i (suc n) a b ≡ i
  unfolding differ_from
  differ_here i n h = ap (λ (t : Bool). cond t (differ_from (suc i) n a b) i) (ne_eqb (get_or a i 0) (get_or b i 0) h)

  differ_later : (i n : ℕ) → get_or a i 0 ≡ get_or b i 0 → differ_from i (suc n) a b ≡ differ_from (suc i) n a b
  unfolding differ_from
  differ_later i n e = ap (λ (t : Bool). cond t (differ_from (suc i) n a b) i) (eq-eqb (get_or a i 0) (get_or b i 0) e)

  -- the next n places agree where no difference is found, and only there
  agree : (n i : ℕ) → differ_from i n a b ≡ i + n → (k : ℕ) → i ≤ k → k < i + n → get_or a k 0 ≡ get_or b k 0
  unfolding differ_from
  agree zero i e k l h = absurd (omega arith)
  agree (suc n) i e k l h = go (eqb (get_or a i 0) (get_or b i 0)) refl e (λ e p. agree n (suc i) e k p (omega arith))
    where
      go : (t : Bool) → eqb (get_or a i 0) (get_or b i 0) ≡ t → cond t (differ_from (suc i) n a b) i ≡ i + suc n
          → (differ_from (suc i) n a b ≡ suc i + n → i < k → get_or a k 0 ≡ get_or b k 0) → get_or a k 0 ≡ get_or b k 0
      go true q e later = elim (lt_or_le i k) [
        | inl p ↦ later (omega (arith, e)) p
        | inr p ↦ let s : k ≡ i = omega arith in rw s (eqb-true (get_or a i 0) (get_or b i 0) q)
      ]
      go false q e later = absurd (omega arith)

  no_differ : (n i : ℕ) → ((k : ℕ) → i ≤ k → k < i + n → get_or a k 0 ≡ get_or b k 0) → differ_from i n a b ≡ i + n
  unfolding differ_from
  no_differ zero i same = omega arith
  no_differ (suc n) i same =
      differ_later i n (same i (omega arith) (omega arith)) ∙ no_differ n (suc i) (λ k l h. same k (omega arith) (omega arith)) ∙ omega arith

  -- the first place, of the next n from i on, in which they differ
  found_from : (n i first : ℕ) → i ≤ first → first < i + n → ((k : ℕ) → k < first → get_or a k 0 ≡ get_or b k 0)
      → (get_or a first 0 ≡ get_or b first 0 → ⊥) → differ_from i n a b ≡ first
  found_from zero i first l h same other = absurd (omega arith)
  found_from (suc n) i first l h same other = elim (lt_or_le i first) [
    | inl q ↦ differ_later i n (same i q) ∙ found_from n (suc i) first q (omega arith) same other
    | inr q ↦ let e : first ≡ i = omega arith in differ_here i n (rw e at other) ∙ sym e
  ]

  pub first_found : (first : ℕ) → first < 1680 → ((k : ℕ) → k < first → get_or a k 0 ≡ get_or b k 0)
      → (get_or a first 0 ≡ get_or b first 0 → ⊥) → first ≡ first_difference a b
  first_found first h same other = sym (found_from 1680 0 first (omega arith) (omega arith) same other)

  pub none_found : ((k : ℕ) → k < 1680 → get_or a k 0 ≡ get_or b k 0) → 1680 ≡ first_difference a b
  none_found same = sym (no_differ 1680 0 (λ k l h. same k h))

-- rows have no difference exactly where they are equal
pub same_row : (a b : List ℕ) → length a ≡ 1680 → length b ≡ 1680 → first_difference a b ≡ 1680 → a ≡ b
same_row a b l m e =
    ext_get_or 0 a b (l ∙ sym m) (λ k h. agree a b 1680 0 e k (omega arith) (omega arith))

pub row_same : (a : List ℕ) → first_difference a a ≡ 1680
row_same a = no_differ a a 1680 0 (λ k l h. refl)
