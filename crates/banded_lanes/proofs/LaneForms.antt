-- The lane rule over bands that stand in three arrays. Assumes nothing.
use Prim.Native.Nat.{ℕ, zero, suc, ◌-◌, ◌<◌}
use mathlib.Core.Path.{◌≡◌, ap}
use mathlib.Core.List.{List, ◌∷◌, map}
use native.Mathlib.Omega.{arith}
use lib.Ieee.{Float}
use Rattle.lists.specs.Tabulate.{tabulate}
use Rattle.colormapper.specs.declared.UnmappableColors.{UnmappableColors}
use Rattle.banded_columns.specs.declared.LegendBand.{LegendBand}
use Rattle.banded_rule.specs.forms.Columns.{band_at, from_columns}
use Rattle.banded_rule.proofs.Forms.{last_is}
use Rattle.banded_lanes.specs.Edges.{edged}
use Rattle.banded_lanes.specs.LaneRule.{started, swept, chunk_colors, lane_colors}

module _ (starts ends : List Float) (colors : List ℕ) where
  abbrev f : ℕ → LegendBand
  f = band_at starts ends colors

  abbrev bands : ℕ → List LegendBand
  bands = from_columns starts ends colors

  pub lane-none : (count : ℕ) (u : UnmappableColors) (vs : List Float) → count ≡ 0 → lane_colors (bands count) u vs ≡ map (λ (v : Float). u.nodata) vs
  unfolding from_columns tabulate lane_colors
  lane-none count u vs e = ap (λ (n : ℕ). lane_colors (bands n) u vs) e

  pub lane_columns : (count : ℕ) (u : UnmappableColors) (vs : List Float) → 0 < count
      → lane_colors (bands count) u vs ≡ chunk_colors (edged u (f 0) (f (count - 1))) (swept (bands count) (map (started u.nodata) vs))
  unfolding from_columns tabulate lane_colors
  lane_columns zero u vs h = absurd (omega arith)
  lane_columns (suc n) u vs h =
      let after = swept (f 0 ∷ tabulate n (λ k. f (suc k))) (map (started u.nodata) vs) in
      ap (λ (l : LegendBand). chunk_colors (edged u (f 0) l) after) (last_is starts ends colors n)
