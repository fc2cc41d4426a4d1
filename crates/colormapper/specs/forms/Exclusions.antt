-- A form of the code: unmappable samples by two values, each a NaN where there is none. That this is `unmappable` is proofs/Excluding.antt (excluded-is).
-- Definitions only.
use Rattle.std.specs.Prelude.{Option, Some, None, Bool, cond, ◌||◌, Float}
use Rattle.std.specs.Float.{nan}
use Rattle.std.specs.Float.Ieee.{eq, is_nan}
use Rattle.floats.specs.RampIndex.{nought}
use Rattle.colormapper.specs.declared.Exclusions.{Exclusions}

abbrev pub value_or_nan : Option Float → Float
value_or_nan (Some nodata) = nodata
value_or_nan None = nan

abbrev pub exclusions_of : Option Float → Bool → Exclusions
exclusions_of nodata zero_is_nodata = record { nodata = value_or_nan nodata; zero = cond zero_is_nodata nought nan }

unfoldable pub excluded : Exclusions → Float → Bool
excluded e v = (is_nan v || eq v e.nodata) || eq v e.zero
