-- Painting a raster block by block, by a painting that splits at a block's end: its loop's invariant, the first turn, each turn and the end. Assumes nothing.
use mathlib.Core.Path.{◌≡◌, refl, sym, ap, ap₂, ◌∙◌}
use mathlib.Core.Logic.{◌⊎◌, inl, inr}
use mathlib.Core.List.{List, [], ◌∷◌, ◌++◌, append_assoc, append-nil}
use Prim.Native.Nat.{ℕ, ◌+◌, ◌-◌, ◌≤◌}
use native.Mathlib.Omega.{arith}
use lib.Ieee.{Float}
use lib.ListN.{length, take, drop, length-append, length-drop, take-append-drop, drop_of_length-le}
use lib.Seq.{take_at, take_all, drop-drop, length-take-le}

-- a painting of whole rasters that splits after N samples
pub record Splits (N : ℕ) (paint : List Float → List ℕ) : Type 0 where
  pub long : (xs : List Float) → length (paint xs) ≡ length xs
  pub split : (xs ys : List Float) → length xs ≡ N → paint (xs ++ ys) ≡ paint xs ++ paint ys

-- painted up to i, then the rest
pub record InBlocks (paint : List Float → List ℕ) (xs : List Float) (i : ℕ) (out : List ℕ) : Type 0 where
  pub upto : i ≤ length xs
  pub same : length out ≡ length xs
  pub is : take i out ++ paint (drop i xs) ≡ paint xs

none : (out : List ℕ) → length out ≡ 0 → out ≡ []
none [] e = refl
none (w ∷ out) e = absurd (omega arith)

-- the first k samples, a block or all, and those after them
parts : {N : ℕ} {paint : List Float → List ℕ} → Splits N paint → (ys : List Float) (k : ℕ) → k ≤ length ys → (k ≡ N) ⊎ (k ≡ length ys)
    → paint (take k ys) ++ paint (drop k ys) ≡ paint ys
parts {paint = paint} s ys k h (inl e) = sym (s.split (take k ys) (drop k ys) (length-take-le k ys h ∙ e)) ∙ ap paint (take-append-drop k ys)
parts {paint = paint} s ys k h (inr e) =
    let after : paint (drop k ys) ≡ [] = ap paint (drop_of_length-le ys {i = k} (omega arith)) ∙ none (paint []) (s.long []) in
    ap₂ (λ (xs : List Float) (r : List ℕ). paint xs ++ r) (take_all k ys (omega arith)) after ∙ append-nil (paint ys)

module _ {paint : List Float → List ℕ} {xs : List Float} where
  pub blocks_start : {out : List ℕ} → length out ≡ length xs → InBlocks paint xs 0 out
  blocks_start e = record { upto = omega arith; same = e; is = refl }

  -- a turn: the colours of the samples from i to j, over the output
  pub block_turn : {N i j : ℕ} {out out' : List ℕ} → Splits N paint → InBlocks paint xs i out → i ≤ j → j ≤ length xs → (j ≡ i + N) ⊎ (j ≡ length xs)
      → out' ≡ take i out ++ (paint (take (j - i) (drop i xs)) ++ drop j out) → InBlocks paint xs j out'
  block_turn {N} {i} {j} {out} {out'} s g l h b e =
      let c : List ℕ = paint (take (j - i) (drop i xs)) in
      let rest : List ℕ = paint (drop j xs) in
      let m : length (take (j - i) (drop i xs)) ≡ j - i = length-take-le (j - i) (drop i xs) (omega (arith, length-drop i xs)) in
      let t : length (take i out) ≡ i = length-take-le i out (omega (arith, g.same)) in
      let n : length c ≡ j - i = s.long (take (j - i) (drop i xs)) ∙ m in
      let a : length (take i out ++ c) ≡ j = omega (arith, length-append (take i out) c) in
      let f : out' ≡ (take i out ++ c) ++ drop j out = e ∙ sym (append_assoc (take i out) c (drop j out)) in
      let after : drop (j - i) (drop i xs) ≡ drop j xs = drop-drop (j - i) i xs ∙ ap (λ (d : ℕ). drop d xs) (ends i j l) in
      let both : c ++ rest ≡ paint (drop i xs) =
      ap (λ (r : List Float). c ++ paint r) (sym after) ∙ parts s (drop i xs) (j - i) (omega (arith, length-drop i xs)) (which b) in
      record {
        upto = h;
        same = ap length f ∙ omega (arith, length-append (take i out ++ c) (drop j out), length-drop j out, g.same);
        is =
            ap (λ (o : List ℕ). take j o ++ rest) f
            ∙ ap (λ (o : List ℕ). o ++ rest) (take_at (take i out ++ c) (drop j out) j a)
            ∙ append_assoc (take i out) c rest
            ∙ ap (λ (o : List ℕ). take i out ++ o) both
            ∙ g.is;
      }
    where
      ends : (i j : ℕ) → i ≤ j → i + (j - i) ≡ j
      ends i j l = omega arith

      which : (j ≡ i + N) ⊎ (j ≡ length xs) → (j - i ≡ N) ⊎ (j - i ≡ length (drop i xs))
      which (inl p) = inl (omega arith)
      which (inr p) = inr (omega (arith, length-drop i xs))

  -- the end: all is painted
  pub blocks_end : {i : ℕ} {out : List ℕ} {N : ℕ} → Splits N paint → InBlocks paint xs i out → length xs ≤ i → out ≡ paint xs
  blocks_end {i} {out} s g h =
      let after : paint (drop i xs) ≡ [] = ap paint (drop_of_length-le xs {i = i} h) ∙ none (paint []) (s.long []) in
      sym (ap₂ (λ (o r : List ℕ). o ++ r) (take_all i out (omega (arith, g.same))) after ∙ append-nil out) ∙ g.is
