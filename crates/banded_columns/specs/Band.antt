-- A band, and which samples it holds (docs/RULES.md, "Banded"). Definitions only.
use Rattle.std.specs.Prelude.{Bool, ◌&&◌, List, [], ◌∷◌, Float}
use Rattle.std.specs.Float.Ieee.{lt, le}
use Rattle.banded_columns.specs.declared.LegendBand.{LegendBand}

-- start <= value < end
abbrev pub holds : LegendBand → Float → Bool
holds b v = le b.start v && lt v b.end

-- the last band of a list that starts with b
unfoldable pub last_of : LegendBand → List LegendBand → LegendBand
last_of b [] = b
last_of b (c ∷ bs) = last_of c bs
