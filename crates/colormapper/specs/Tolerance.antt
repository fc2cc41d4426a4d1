-- E, the tolerance at the edges of a range (docs/RULES.md, "Linear" and "Banded"). Definitions only.
use Rattle.std.specs.Prelude.{Bool, Float}
use Rattle.std.specs.Float.{binary32}
use Rattle.std.specs.Float.Ieee.{sub, lt, of_bits}
use Rattle.floats.specs.Size.{abs}

-- the f32 1e-4
abbrev pub E : Float
E = of_bits binary32 0x38D1_B717

-- within E of an edge: the size of the difference in f32, strictly
abbrev pub within : (edge v : Float) → Bool
within edge v = lt (abs (sub binary32 v edge)) E
