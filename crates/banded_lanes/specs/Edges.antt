-- A lane of a chunk, and the edges of the lane rule of a banded legend (docs/RULES.md, "Banded"). Definitions only.
use Rattle.std.specs.Prelude.{ℕ, Bool, false, cond, Float}
use Rattle.std.specs.Float.Ieee.{lt}
use Rattle.colormapper.specs.declared.UnmappableColors.{UnmappableColors}
use Rattle.colormapper.specs.Tolerance.{within}
use Rattle.banded_columns.specs.declared.LegendBand.{LegendBand}

-- a lane: its value, whether it lies in some band so far, and its colour so far
pub record Lane : Type 0 where
  pub value : Float
  pub inside : Bool
  pub color : ℕ

-- a chunk that no band finishes: low, high, the first colour, the last colour, each over those before it
unfoldable pub edged : (u : UnmappableColors) (first last : LegendBand) → Lane → ℕ
edged u first last l =
    cond (within last.end l.value) last.color
    (cond (within first.start l.value) first.color
    (cond (lt last.end l.value) u.high
    (cond (lt l.value first.start) u.low l.color)))

-- the colour of a lane whose chunk no band finished, by its value and its colour so far
abbrev pub lane_edge_color : (first last : LegendBand) (u : UnmappableColors) (v : Float) (color : ℕ) → ℕ
lane_edge_color first last u v color = edged u first last (record { value = v; inside = false; color = color })
