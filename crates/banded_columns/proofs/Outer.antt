-- The outer bands of those counted, by their index. Assumes nothing.
use mathlib.Core.Path.{◌≡◌, refl, ap, ◌∙◌}
use mathlib.Core.List.{List, [], ◌∷◌}
use Prim.Native.Nat.{ℕ, ◌-◌, ◌<◌}
use native.Mathlib.Omega.{arith}
use lib.ListN.{length, get_or}
use Rattle.banded_columns.specs.declared.LegendBand.{LegendBand}
use Rattle.banded_columns.specs.Band.{last_of}
use Rattle.banded_columns.specs.OuterColors.{last_color_or}

module _ (z : LegendBand) (other : ℕ) where
  pub last_of_lem : (x : LegendBand) (xs : List LegendBand) → last_of x xs ≡ get_or (x ∷ xs) (length xs) z
  unfolding last_of
  last_of_lem x [] = refl
  last_of_lem x (y ∷ xs) = last_of_lem y xs

  pub last_is : (xs : List LegendBand) → 0 < length xs → last_color_or xs other ≡ (get_or xs (length xs - 1) z).color
  last_is [] g = absurd (omega arith)
  last_is (x ∷ xs) g =
      let e : length xs ≡ length (x ∷ xs) - 1 = omega arith in ap (λ (b : LegendBand). b.color) (last_of_lem x xs ∙ ap (λ (k : ℕ). get_or (x ∷ xs) k z) e)
