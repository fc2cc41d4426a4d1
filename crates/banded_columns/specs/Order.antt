-- Bands in order, as demand 3 speaks of them (docs/PROMISES.md): tests of a band, of a band and the one before it, and of a list. Definitions only.
use Rattle.std.specs.Prelude.{Bool, true, not, ◌&&◌, List, [], ◌∷◌, T}
use Rattle.std.specs.Float.Ieee.{lt}
use Rattle.std.specs.Float.Ieee.Scale.{finite}
use Rattle.lists.specs.Each.{each}
use Rattle.banded_columns.specs.declared.LegendBand.{LegendBand}

-- ---- of a band, and of a band and the one before it
abbrev pub finite_band : LegendBand → Bool
finite_band b = finite b.start && finite b.end

abbrev pub starts_below_end : LegendBand → Bool
starts_below_end b = lt b.start b.end

-- it does not start below the start of the one before
abbrev pub starts_ascend : (before b : LegendBand) → Bool
starts_ascend before b = not (lt b.start before.start)

-- it does not start below the end of the one before
abbrev pub clears : (before b : LegendBand) → Bool
clears before b = not (lt b.start before.end)

-- ---- of a list: of each band after the one before it
unfoldable pub each_after : (LegendBand → LegendBand → Bool) → LegendBand → List LegendBand → Bool
each_after test before [] = true
each_after test before (b ∷ bs) = test before b && each_after test b bs

unfoldable pub each_next : (LegendBand → LegendBand → Bool) → List LegendBand → Bool
each_next test [] = true
each_next test (b ∷ bs) = each_after test b bs

-- each band starts below its end, so that no bound is a NaN, and none starts below the end of the one before. Then starts ascend (proofs/Ordering.antt)
unfoldable pub ascending_disjoint : List LegendBand → Bool
ascending_disjoint bands = each starts_below_end bands && each_next clears bands

-- in the user's words: finite, each starting below its end, ascending, without overlap
pub record Ordered (bands : List LegendBand) : Type 0 where
  pub finite : T (each finite_band bands)
  pub starts : T (each starts_below_end bands)
  pub ascending : T (each_next starts_ascend bands)
  pub disjoint : T (each_next clears bands)
