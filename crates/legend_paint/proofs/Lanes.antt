-- Plain painting and lane painting as one: a lane count of 0 stands for plain painting. Assumes nothing.
use mathlib.Core.Path.{◌≡◌, refl, sym, ap, ap₂, ◌∙◌}
use mathlib.Core.Bool.{Bool, true, false, cond, ◌||◌, true≢false}
use mathlib.Core.List.{List}
use Prim.Native.Nat.{ℕ, zero, suc}
use borrow.Author.Tests.{ne_eqb}
use lib.Dec.{eqb}
use lib.Ieee.{Float}
use Rattle.painting.specs.Painted.{plain_painted, lane_painted}
use Rattle.painting.specs.Paintings.{Painter, lane_count}
use Rattle.legend_paint.specs.forms.PlainOrLanes.{painted, plain_or_lanes}

-- ---- 0 lanes, or a lane count
or_else : (a b : Bool) → (a || b) ≡ true → a ≡ false → b ≡ true
or_else true b h e = absurd (true≢false e)
or_else false b h e = h

pub lanes_count : (lanes : ℕ) → plain_or_lanes lanes ≡ true → (lanes ≡ 0 → ⊥) → lane_count lanes ≡ true
lanes_count lanes h n = or_else (eqb lanes 0) (lane_count lanes) h (ne_eqb lanes 0 n)

pub count-lanes : (lanes : ℕ) → lane_count lanes ≡ true → plain_or_lanes lanes ≡ true
count-lanes lanes h = go (eqb lanes 0) (lane_count lanes) h
  where
    go : (a b : Bool) → b ≡ true → (a || b) ≡ true
    go true b e = refl
    go false b e = e

-- ---- what is painted
pub painted-plain : (p : Painter) (lanes : ℕ) (xs : List Float) → lanes ≡ 0 → plain_painted p.plain xs ≡ painted p lanes xs
unfolding painted
painted-plain p lanes xs e = sym (ap (λ (l : ℕ). painted p l xs) e)

pub painted-lanes : (p : Painter) (lanes : ℕ) (xs : List Float) → (lanes ≡ 0 → ⊥)
    → cond p.simd (lane_painted lanes p.chunk p.plain xs) (plain_painted p.plain xs) ≡ painted p lanes xs
unfolding painted
painted-lanes p zero xs n = absurd (n refl)
painted-lanes p (suc l) xs n = refl

-- with a rule for lanes, or without one
pub painted-simd : (p : Painter) (lanes : ℕ) (xs : List Float) → (lanes ≡ 0 → ⊥) → p.simd ≡ true
    → lane_painted lanes p.chunk p.plain xs ≡ painted p lanes xs
painted-simd p lanes xs n e =
    sym (ap (λ (b : Bool). cond b (lane_painted lanes p.chunk p.plain xs) (plain_painted p.plain xs)) e) ∙ painted-lanes p lanes xs n

pub painted_without : (p : Painter) (lanes : ℕ) (xs : List Float) → p.simd ≡ false → plain_painted p.plain xs ≡ painted p lanes xs
unfolding painted
painted_without p zero xs e = refl
painted_without p (suc l) xs e = sym (ap (λ (b : Bool). cond b (lane_painted (suc l) p.chunk p.plain xs) (plain_painted p.plain xs)) e)

-- by a rule for a sample and one for a chunk that are the painter's
pub painted_plainly : (p : Painter) (lanes : ℕ) (xs : List Float) {f : Float → ℕ} → f ≡ p.plain → lanes ≡ 0 → plain_painted f xs ≡ painted p lanes xs
painted_plainly p lanes xs e z = ap (λ (f : Float → ℕ). plain_painted f xs) e ∙ painted-plain p lanes xs z

pub painted-in_lanes : (p : Painter) (lanes : ℕ) (xs : List Float) {k : List Float → List ℕ} {f : Float → ℕ}
    → k ≡ p.chunk → f ≡ p.plain → p.simd ≡ true → (lanes ≡ 0 → ⊥) → lane_painted lanes k f xs ≡ painted p lanes xs
painted-in_lanes p lanes xs g e simd n = ap₂ (λ (k : List Float → List ℕ) (f : Float → ℕ). lane_painted lanes k f xs) g e ∙ painted-simd p lanes xs n simd
