-- Painting, plain or in lanes, splits at blocks of 256. Assumes nothing.
use mathlib.Core.Path.{◌≡◌, refl, sym, ap, ◌∙◌}
use mathlib.Core.Bool.{Bool, true, false, cond, ◌||◌, true≢false}
use mathlib.Core.List.{List, ◌++◌, map-append}
use Prim.Native.Nat.{ℕ, zero, suc, ◌*◌, ◌<◌}
use native.Mathlib.Omega.{arith}
use borrow.Author.Tests.{eqb-true}
use lib.Dec.{eqb}
use lib.Ieee.{Float}
use lib.ListN.{length, length-map}
use Rattle.painting.specs.Painted.{plain_painted, lane_painted}
use Rattle.painting.specs.Paintings.{Painter}
use Rattle.painting.proofs.Splitting.{lane_split, length-painted}
use Rattle.painting.proofs.Blocks.{Splits}
use Rattle.legend_paint.specs.forms.PlainOrLanes.{painted, plain_or_lanes}
use Rattle.legend_paint.proofs.Lanes.{lanes_count}

module _ (p : Painter) (chunk-long : (c : List Float) → length (p.chunk c) ≡ length c) where
  both_long : (b : Bool) (L : ℕ) (xs : List Float) → length (cond b (lane_painted L p.chunk p.plain xs) (plain_painted p.plain xs)) ≡ length xs
  both_long true L xs = length-painted L p.chunk p.plain chunk-long xs
  both_long false L xs = length-map xs p.plain

  both_split : (b : Bool) (L k : ℕ) → 0 < L → (xs ys : List Float) → length xs ≡ k * L
      → cond b (lane_painted L p.chunk p.plain (xs ++ ys)) (plain_painted p.plain (xs ++ ys)) ≡ cond b (lane_painted L p.chunk p.plain xs)
      (plain_painted p.plain xs) ++ cond b (lane_painted L p.chunk p.plain ys) (plain_painted p.plain ys)
  both_split true L k h xs ys e = lane_split L h p.chunk p.plain k xs ys e
  both_split false L k h xs ys e = map-append p.plain xs ys

  painted-long : (lanes : ℕ) (xs : List Float) → length (painted p lanes xs) ≡ length xs
  unfolding painted
  painted-long zero xs = length-map xs p.plain
  painted-long (suc l) xs = both_long p.simd (suc l) xs

  -- how often the lane count goes into a block
  often : (a b c : Bool) (lanes : ℕ) → (a ≡ true → lanes ≡ 4) → (b ≡ true → lanes ≡ 8) → (c ≡ true → lanes ≡ 16) → ((a || b) || c) ≡ true → (k : ℕ)
      × (k * lanes ≡ 256)
  often true b c lanes f g h e = (64, ap (λ (l : ℕ). 64 * l) (f refl))
  often false true c lanes f g h e = (32, ap (λ (l : ℕ). 32 * l) (g refl))
  often false false true lanes f g h e = (16, ap (λ (l : ℕ). 16 * l) (h refl))
  often false false false lanes f g h e = absurd (true≢false (sym e))

  split_at : (lanes : ℕ) → plain_or_lanes lanes ≡ true → (xs ys : List Float) → length xs ≡ 256 → painted p lanes (xs ++ ys) ≡ painted p lanes xs
      ++ painted p lanes ys
  unfolding painted
  split_at zero h xs ys e = map-append p.plain xs ys
  split_at (suc l) h xs ys e =
      let k = often (eqb (suc l) 4) (eqb (suc l) 8) (eqb (suc l) 16) (suc l) (eqb-true (suc l) 4) (eqb-true (suc l) 8) (eqb-true (suc l) 16)
      (lanes_count (suc l) h (λ z. not_zero z)) in
      both_split p.simd (suc l) k.0 (omega arith) xs ys (e ∙ sym k.1)
    where
      not_zero : {n : ℕ} → suc n ≡ 0 → ⊥
      not_zero z = omega arith

  pub splits : (lanes : ℕ) → plain_or_lanes lanes ≡ true → Splits 256 (painted p lanes)
  splits lanes h = record { long = painted-long lanes; split = split_at lanes h }
