-- The places of at most 64 bands (docs/RULES.md, "Banded"). Definitions only.
use Rattle.std.specs.Prelude.{List}
use Rattle.floats.specs.RampIndex.{nought}
use Rattle.lists.specs.Padded.{padded}
use Rattle.banded_columns.specs.declared.LegendBand.{LegendBand}

-- what stands in the places that no band uses
abbrev pub blank_band : LegendBand
blank_band = record { start = nought; end = nought; color = 0 }

-- the bands in their order, then blank ones
abbrev pub padded_bands : List LegendBand → List LegendBand
padded_bands bands = padded blank_band 64 bands
