-- The colours of the outer bands (docs/RULES.md, "Samples and settings"). Definitions only.
use Rattle.std.specs.Prelude.{ℕ, List, [], ◌∷◌}
use Rattle.banded_columns.specs.declared.LegendBand.{LegendBand}
use Rattle.banded_columns.specs.Band.{last_of}

-- the first band's colour and the last band's, or another with no bands
abbrev pub first_color_or : List LegendBand → (other : ℕ) → ℕ
first_color_or [] other = other
first_color_or (b ∷ bs) other = b.color

abbrev pub last_color_or : List LegendBand → (other : ℕ) → ℕ
last_color_or [] other = other
last_color_or (b ∷ bs) other = (last_of b bs).color
