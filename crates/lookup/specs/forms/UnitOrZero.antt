-- A form of the code: a fraction that has an entry, looked up before it is decided whether it is shown. That the choice is `entry_color` of the entry is
-- proofs/Lookups.antt (plain_chosen, lane_chosen). Definitions only.
use Rattle.std.specs.Prelude.{cond, Float}
use Rattle.floats.specs.RampIndex.{nought, in_unit}

-- the fraction itself from 0 to 1, else 0
unfoldable pub unit_or_zero : Float → Float
unit_or_zero f = cond (in_unit f) f nought
