-- A nodata value beside its flag. Definitions only.
use Rattle.std.specs.Prelude.{Option, Some, None, ℕ, cond, eqb, Float}

abbrev pub nodata_if : (given : ℕ) → Float → Option Float
nodata_if given v = cond (eqb given 1) (Some v) None
