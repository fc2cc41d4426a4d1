-- The settings on a card: three colours and a byte of flags (docs/RULES.md, "Cards"). Definitions only.
use Rattle.std.specs.Prelude.{ℕ, ◌+◌, ◌*◌, ◌/◌, ◌%◌, Bool, ◌&&◌, ◌||◌, ltb, eqb}
use Rattle.colormapper.specs.declared.MappingConfig.{MappingConfig}
use Rattle.colormapper.specs.Settings.{color_if, given_flag, flag_of}

-- the flag byte: 1 low present, 2 high present, 4 zero is nodata
unfoldable pub flags_of : MappingConfig → ℕ
flags_of config = given_flag config.out_of_range_low_color + 2 * given_flag config.out_of_range_high_color + 4 * flag_of config.zero_is_nodata

abbrev pub low_flag : (flags : ℕ) → ℕ
low_flag flags = flags % 2

abbrev pub high_flag : (flags : ℕ) → ℕ
high_flag flags = flags / 2 % 2

abbrev pub zero_flag : (flags : ℕ) → ℕ
zero_flag flags = flags / 4 % 2

unfoldable pub settings_in : (nodata flags low high : ℕ) → MappingConfig
settings_in nodata flags low high =
    record {
      nodata_color = nodata;
      out_of_range_low_color = color_if (low_flag flags) low;
      out_of_range_high_color = color_if (high_flag flags) high;
      zero_is_nodata = eqb (zero_flag flags) 1;
    }

-- other flag bits are zero, and an absent colour is four zero bytes
unfoldable pub settings_fit : (flags low high : ℕ) → Bool
settings_fit flags low high = ltb flags 8 && (eqb (low_flag flags) 1 || eqb low 0) && (eqb (high_flag flags) 1 || eqb high 0)
