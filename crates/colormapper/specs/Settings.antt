-- The settings, and the colours that they give (docs/RULES.md, "Samples and settings"). Definitions only.
use Rattle.std.specs.Prelude.{Option, Some, None, ℕ, Bool, false, cond, eqb}
use Rattle.color.specs.Word.{word_of, transparent}
use Rattle.colormapper.specs.declared.MappingConfig.{MappingConfig}
use Rattle.colormapper.specs.declared.UnmappableColors.{UnmappableColors}

-- TRANSPARENT for nodata, no low and no high colour, zero a value as any other
abbrev pub no_settings : MappingConfig
no_settings = record { nodata_color = word_of transparent; out_of_range_low_color = None; out_of_range_high_color = None; zero_is_nodata = false }

abbrev pub or_else : Option ℕ → ℕ → ℕ
or_else (Some color) other = color
or_else None other = other

-- a colour and a setting as flags, 0 or 1
abbrev pub color_if : (given color : ℕ) → Option ℕ
color_if given color = cond (eqb given 1) (Some color) None

abbrev pub given_flag : Option ℕ → ℕ
given_flag (Some color) = 1
given_flag None = 0

abbrev pub flag_of : Bool → ℕ
flag_of b = cond b 1 0

-- low and high are what a kind takes where the settings have none
abbrev pub unmappable_colors : MappingConfig → (low high : ℕ) → UnmappableColors
unmappable_colors config low high =
    record { nodata = config.nodata_color; low = or_else config.out_of_range_low_color low; high = or_else config.out_of_range_high_color high }
