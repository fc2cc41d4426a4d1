-- The plain rule of a banded legend (docs/RULES.md, "Banded"): which case a sample falls under, and the case's colour. Definitions only.
use Rattle.std.specs.Prelude.{ℕ, suc, cond, List, [], ◌∷◌, map, Float}
use Rattle.std.specs.Float.Ieee.{lt}
use Rattle.colormapper.specs.declared.UnmappableColors.{UnmappableColors}
use Rattle.colormapper.specs.Rule.{Rule, band, lower_edge, upper_edge, low, high, gap, RuleColors, rule_color}
use Rattle.colormapper.specs.Tolerance.{within}
use Rattle.banded_columns.specs.declared.LegendBand.{LegendBand}
use Rattle.banded_columns.specs.Band.{holds, last_of}

-- the first band that holds the value, counted from k
unfoldable pub first_band : (k : ℕ) (bands : List LegendBand) (v : Float) (otherwise : Rule) → Rule
first_band k [] v otherwise = otherwise
first_band k (b ∷ bs) v otherwise = cond (holds b v) (band k) (first_band (suc k) bs v otherwise)

-- within E of the first start; else below it; else within E of the last end; else above it; else between bands
unfoldable pub edges : (first last : LegendBand) (v : Float) → Rule
edges first last v =
    cond (within first.start v) lower_edge
    (cond (lt v first.start) low
    (cond (within last.end v) upper_edge
    (cond (lt last.end v) high gap)))

unfoldable pub plain_rule : List LegendBand → Float → Rule
plain_rule [] v = gap
plain_rule (b ∷ bs) v = first_band 0 (b ∷ bs) v (edges b (last_of b bs) v)

-- the colours are the bands' and those of the settings
abbrev pub banded_rule_colors : List LegendBand → UnmappableColors → RuleColors
banded_rule_colors bands u = record { unmappable = u; ramp = []; bands = map (λ (b : LegendBand). b.color) bands; categories = []; table = [] }

abbrev pub plain_color : List LegendBand → UnmappableColors → Float → ℕ
plain_color bands u v = rule_color (banded_rule_colors bands u) (plain_rule bands v)
