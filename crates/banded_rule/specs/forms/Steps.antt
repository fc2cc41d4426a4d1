-- A form of the code: the plain rule's bands, then its edges, by their colours. That these are `plain_color` is proofs/Forms.antt (plain_form). Definitions
-- only.
use Rattle.std.specs.Prelude.{ℕ, cond, List, [], ◌∷◌, Float}
use Rattle.colormapper.specs.declared.UnmappableColors.{UnmappableColors}
use Rattle.banded_columns.specs.declared.LegendBand.{LegendBand}
use Rattle.banded_columns.specs.Band.{holds}
use Rattle.colormapper.specs.Rule.{rule_color}
use Rattle.banded_rule.specs.PlainRule.{edges, banded_rule_colors}

-- the colour of the first band that holds the value
unfoldable pub first_color : List LegendBand → Float → (otherwise : ℕ) → ℕ
first_color [] v otherwise = otherwise
first_color (b ∷ bs) v otherwise = cond (holds b v) b.color (first_color bs v otherwise)

-- the colour of a value that no band holds, plainly
abbrev pub edge_color : (first last : LegendBand) (u : UnmappableColors) (v : Float) → ℕ
edge_color first last u v = rule_color (banded_rule_colors (first ∷ last ∷ []) u) (edges first last v)
