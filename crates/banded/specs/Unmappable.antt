-- The colours of unmappable samples where the settings have none (docs/RULES.md, "Samples and settings"). Definitions only.
use Rattle.std.specs.Prelude.{List}
use Rattle.colormapper.specs.declared.MappingConfig.{MappingConfig}
use Rattle.colormapper.specs.declared.UnmappableColors.{UnmappableColors}
use Rattle.colormapper.specs.Settings.{unmappable_colors}
use Rattle.banded_columns.specs.declared.LegendBand.{LegendBand}
use Rattle.banded_columns.specs.OuterColors.{first_color_or, last_color_or}

-- low by the first, high by the last, both nodata with no bands
abbrev pub banded_unmappable : List LegendBand → MappingConfig → UnmappableColors
banded_unmappable bands config = unmappable_colors config (first_color_or bands config.nodata_color) (last_color_or bands config.nodata_color)
