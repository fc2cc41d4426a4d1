-- The lists of bands for which lanes and plain painting agree (docs/PROMISES.md, demand 3), the empty list among them. Definitions only.
use Rattle.std.specs.Prelude.{Bool, true, ◌&&◌, List, [], ◌∷◌, T}
use Rattle.std.specs.Float.{binary32}
use Rattle.std.specs.Float.Ieee.{le, sub}
use Rattle.colormapper.specs.Tolerance.{E}
use Rattle.banded_columns.specs.declared.LegendBand.{LegendBand}
use Rattle.banded_columns.specs.Band.{last_of}
use Rattle.banded_columns.specs.Order.{ascending_disjoint}

-- at least E wide when subtracted in f32
abbrev pub wide_band : LegendBand → Bool
wide_band b = le E (sub binary32 b.end b.start)

unfoldable pub first_and_last : (LegendBand → Bool) → List LegendBand → Bool
first_and_last test [] = true
first_and_last test (b ∷ bs) = test b && test (last_of b bs)

-- ascending and disjoint, and the first and the last at least E wide: for these the two rules agree, also where a bound is infinite
pub record LawfulBands (bands : List LegendBand) : Type 0 where
  pub ordered : T (ascending_disjoint bands)
  pub wide : T (first_and_last wide_band bands)
