-- A chunk's colours with its unmappable lanes masked: by lanes, its length, and each lane. Assumes nothing.
use mathlib.Core.Path.{◌≡◌, refl, ap, ap₂}
use mathlib.Core.Bool.{Bool, cond}
use mathlib.Core.List.{List, [], ◌∷◌, map}
use Prim.Native.Nat.{ℕ, zero, suc, ◌≤◌, ◌<◌}
use native.Mathlib.Nat.{le_of_suc-le-suc, not-suc-le-zero, zero-lt-suc}
use native.Mathlib.Omega.{arith}
use lib.Ieee.{Float, nan}
use lib.ListN.{length, take, get_or}
use Rattle.lists.specs.Lanes.{Lanes}
use Rattle.painting.specs.Masked.{masked}

module _ (unmappable : Float → Bool) (nodata : ℕ) where
  pub lanes-masked : (l : ℕ) (r : List ℕ) (vs : List Float) (cs : List ℕ) → l ≤ length r → l ≤ length vs → l ≤ length cs
      → Lanes 0 l r (λ k. cond (unmappable (get_or vs k nan)) nodata (get_or cs k 0))
      → take l r ≡ masked unmappable nodata (take l vs) (take l cs)
  unfolding masked
  lanes-masked zero r vs cs h g f all = refl
  lanes-masked (suc l) [] vs cs h g f all = absurd (not-suc-le-zero h)
  lanes-masked (suc l) (b ∷ r) [] cs h g f all = absurd (not-suc-le-zero g)
  lanes-masked (suc l) (b ∷ r) (v ∷ vs) [] h g f all = absurd (not-suc-le-zero f)
  lanes-masked (suc l) (b ∷ r) (v ∷ vs) (c ∷ cs) h g f all =
      ap₂ (λ x y. x ∷ y) (all zero (zero-lt-suc l))
      (lanes-masked l r vs cs (le_of_suc-le-suc h) (le_of_suc-le-suc g) (le_of_suc-le-suc f) (λ k q. all (suc k) (omega arith)))

  pub length-masked : (vs : List Float) (cs : List ℕ) → length cs ≡ length vs → length (masked unmappable nodata vs cs) ≡ length vs
  unfolding masked
  length-masked [] cs e = refl
  length-masked (v ∷ vs) [] e = absurd (omega arith)
  length-masked (v ∷ vs) (c ∷ cs) e = ap suc (length-masked vs cs (omega arith))

  pub get_or-masked : (vs : List Float) (cs : List ℕ) (k : ℕ) → k < length vs → length cs ≡ length vs → get_or (masked unmappable nodata vs cs) k 0
      ≡ cond (unmappable (get_or vs k nan)) nodata (get_or cs k 0)
  unfolding masked
  get_or-masked [] cs k h e = absurd (not-suc-le-zero h)
  get_or-masked (v ∷ vs) [] k h e = absurd (omega arith)
  get_or-masked (v ∷ vs) (c ∷ cs) zero h e = refl
  get_or-masked (v ∷ vs) (c ∷ cs) (suc k) h e = get_or-masked vs cs k (le_of_suc-le-suc h) (omega arith)

  -- where each lane has a rule of its own
  pub masked-map : (rule : Float → ℕ) (vs : List Float) → masked unmappable nodata vs (map rule vs) ≡ map (λ v. cond (unmappable v) nodata (rule v)) vs
  unfolding masked
  masked-map rule [] = refl
  masked-map rule (v ∷ vs) = ap (λ r. cond (unmappable v) nodata (rule v) ∷ r) (masked-map rule vs)
