-- The fraction of a range at which a value lies (docs/RULES.md, "Linear"). Definitions only.
use Rattle.std.specs.Prelude.{cond, Float}
use Rattle.std.specs.Float.{binary32}
use Rattle.std.specs.Float.Ieee.{sub, div, lt, le}
use Rattle.floats.specs.RampIndex.{nought, one}

-- 0 if value <= start, else 1 if value >= end, else (value - start) / (end - start). In lanes it is the whole rule
unfoldable pub fraction : (start end value : Float) → Float
fraction start end value = cond (le value start) nought (cond (le end value) one (div binary32 (sub binary32 value start) (sub binary32 end start)))

-- plainly a start above its end gives 0
unfoldable pub plain_fraction : (start end value : Float) → Float
plain_fraction start end value = cond (lt end start) nought (fraction start end value)
