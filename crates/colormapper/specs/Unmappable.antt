-- Which samples are unmappable (docs/RULES.md, "Samples and settings"). Definitions only.
use Rattle.std.specs.Prelude.{Option, Some, None, Bool, false, ◌&&◌, ◌||◌, Float}
use Rattle.std.specs.Float.Ieee.{eq, is_nan}
use Rattle.floats.specs.RampIndex.{nought}

-- a sample equals the nodata value given
abbrev pub is_nodata : Option Float → Float → Bool
is_nodata (Some nodata) v = eq v nodata
is_nodata None v = false

-- NaN, equal to the nodata value given, or zero-is-nodata is set and it equals 0, negative zero too
unfoldable pub unmappable : (nodata : (Option Float)) (zero_is_nodata : Bool) (v : Float) → Bool
unmappable nodata zero_is_nodata v = (is_nan v || is_nodata nodata v) || (zero_is_nodata && eq v nought)
