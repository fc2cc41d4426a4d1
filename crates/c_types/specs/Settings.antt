-- Settings as C passes them, and the way back. Definitions only.
use Rattle.std.specs.Prelude.{eqb}
use Rattle.colormapper.specs.declared.MappingConfig.{MappingConfig}
use Rattle.colormapper.specs.Settings.{or_else, color_if, given_flag, flag_of}
use Rattle.c_types.specs.declared.settings.LegendSettings.{LegendSettings}

unfoldable pub settings_from_c : LegendSettings → MappingConfig
settings_from_c s =
    record {
      nodata_color = s.nodata_color;
      out_of_range_low_color = color_if s.has_low s.low_color;
      out_of_range_high_color = color_if s.has_high s.high_color;
      zero_is_nodata = eqb s.zero_is_nodata 1;
    }

-- the colour 0 where none is given
unfoldable pub settings_to_c : MappingConfig → LegendSettings
settings_to_c c =
    record {
      nodata_color = c.nodata_color;
      low_color = or_else c.out_of_range_low_color 0;
      high_color = or_else c.out_of_range_high_color 0;
      has_low = given_flag c.out_of_range_low_color;
      has_high = given_flag c.out_of_range_high_color;
      zero_is_nodata = flag_of c.zero_is_nodata;
    }
