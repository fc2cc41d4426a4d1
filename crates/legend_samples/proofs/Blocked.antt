-- The loop over blocks of samples of any type: its invariant, the first turn, each turn and the end. Assumes nothing.
use Rattle.std.specs.Prelude.{Option}
use mathlib.Core.Path.{◌≡◌, refl, sym, ap, ◌∙◌}
use mathlib.Core.Logic.{◌⊎◌, inl, inr}
use mathlib.Core.Bool.{true}
use mathlib.Core.List.{List, [], ◌∷◌, ◌++◌, map}
use Prim.Native.Nat.{ℕ, zero, suc, ◌+◌, ◌-◌, ◌≤◌, ◌<◌, min}
use native.Mathlib.Omega.{arith}
use lib.Ieee.{Float}
use lib.ListN.{length, take, drop, length-map, length-drop}
use lib.Seq.{length-take-le}
use Rattle.lists.proofs.Numbers.{lt_or_le}
use Rattle.painting.proofs.Blocks.{Splits, InBlocks, blocks_start, block_turn, blocks_end}
use Rattle.legend.specs.declared.Legend.{Legend}
use Rattle.legend.specs.Painters.{painter}
use Rattle.legend.proofs.AnyKind.{chunk-long}
use Rattle.legend_paint.specs.forms.PlainOrLanes.{painted, plain_or_lanes}
use Rattle.legend_samples.proofs.Splits.{splits}

-- a part of what is mapped
map-take : {A : Type 0} (f : A → Float) (n : ℕ) (xs : List A) → take n (map f xs) ≡ map f (take n xs)
map-take f zero xs = refl
map-take f (suc n) [] = refl
map-take f (suc n) (x ∷ xs) = ap (λ (ys : List Float). f x ∷ ys) (map-take f n xs)

map-drop : {A : Type 0} (f : A → Float) (n : ℕ) (xs : List A) → drop n (map f xs) ≡ map f (drop n xs)
map-drop f zero xs = refl
map-drop f (suc n) [] = refl
map-drop f (suc n) (x ∷ xs) = map-drop f n xs

-- a block ends after 256 samples or with the last
which : (i n : ℕ) → i ≤ n → (min (i + 256) n ≡ i + 256) ⊎ (min (i + 256) n ≡ n)
which i n h = go (lt_or_le n (i + 256))
  where
    go : (n < i + 256) ⊎ (i + 256 ≤ n) → (min (i + 256) n ≡ i + 256) ⊎ (min (i + 256) n ≡ n)
    go (inl p) = inr (omega arith)
    go (inr p) = inl (omega arith)

abbrev paint : Legend → Option Float → (lanes : ℕ) → List Float → List ℕ
paint l nodata lanes = painted (painter l nodata) lanes

at_blocks : (l : Legend) (nodata : (Option Float)) (lanes : ℕ) → plain_or_lanes lanes ≡ true → Splits 256 (paint l nodata lanes)
at_blocks l nodata lanes h = splits (painter l nodata) (chunk-long l nodata) lanes h

-- of the n samples, those below `from` are painted
pub record Blocked {A : Type 0} (float : A → Float) (l : Legend) (nodata : (Option Float)) (lanes : ℕ) (src : List A) (n from : ℕ) (out : List ℕ) : Type 0 where
  pub known : plain_or_lanes lanes ≡ true
  pub all : n ≡ length src
  pub upto : from ≤ n
  pub same : length out ≡ n
  pub is : InBlocks (paint l nodata lanes) (map float src) from out

module _ {A : Type 0} {float : A → Float} {l : Legend} {nodata : (Option Float)} {lanes : ℕ} {src : List A} {out : List ℕ} where
  pub blocked_start : plain_or_lanes lanes ≡ true → length out ≡ length src → Blocked float l nodata lanes src (length src) 0 out
  blocked_start h e = record { known = h; all = refl; upto = omega arith; same = e; is = blocks_start (e ∙ sym (length-map src float)) }

  -- a turn: the samples of the block as f32, painted over the output
  pub blocked_turn : {n from to : ℕ} {out' : List ℕ} (samples : List Float)
      → Blocked float l nodata lanes src n from out → to ≡ min (from + 256) n
      → take (length (take (to - from) (drop from src))) samples ≡ map float (take (to - from) (drop from src))
      → out' ≡ take from out ++ (paint l nodata lanes (take (to - from) samples) ++ drop to out)
      → Blocked float l nodata lanes src n to out'
  blocked_turn {n} {from} {to} {out'} samples g b e p =
      let k = g.all in
      let u = g.upto in
      let m = length-map src float in
      let c : length (take (to - from) (drop from src)) ≡ to - from = length-take-le (to - from) (drop from src) (omega (arith, length-drop from src)) in
      let part : take (to - from) samples ≡ take (to - from) (drop from (map float src)) =
      ap (λ (j : ℕ). take j samples) (sym c) ∙ e ∙ sym (ap (take (to - from)) (map-drop float from src) ∙ map-take float (to - from) (drop from src)) in
      let t =
      block_turn (at_blocks l nodata lanes g.known) g.is (omega arith) (omega arith) (ends b (which from n u))
      (p ∙ ap (λ (xs : List Float). take from out ++ (paint l nodata lanes xs ++ drop to out)) part) in
      record { known = g.known; all = k; upto = omega arith; same = t.same ∙ m ∙ sym k; is = t }
    where
      ends : to ≡ min (from + 256) n → (min (from + 256) n ≡ from + 256) ⊎ (min (from + 256) n ≡ n) → (to ≡ from + 256) ⊎ (to ≡ length (map float src))
      ends b (inl w) = inl (b ∙ w)
      ends b (inr w) = inr (b ∙ w ∙ g.all ∙ sym (length-map src float))

  pub blocked_end : {n from : ℕ} → Blocked float l nodata lanes src n from out → n ≤ from → out ≡ paint l nodata lanes (map float src)
  blocked_end g q = blocks_end (at_blocks l nodata lanes g.known) g.is (omega (arith, g.all, length-map src float))
