-- Manual ranges (docs/RULES.md, "Where each call says no"). Definitions only.
use Rattle.std.specs.Prelude.{ℕ, suc, Bool, not, cond, List, [], ◌∷◌, ltb, eqb, take}
use Rattle.refusal.specs.Outcome.{Answer, Done, refuse_if}
use Rattle.std.specs.Float.Ieee.{le}
use Rattle.refusal.specs.declared.Refusal.TheVariants.{TooManyBands, ColorCountDiffers, EmptyRange}
use Rattle.banded_columns.specs.declared.LegendBand.{LegendBand}
use Rattle.banded_lists.specs.declared.ValueRange.{ValueRange}
use Rattle.banded_lists.specs.declared.ValueRanges.{ValueRanges}

-- the ranges that are counted
abbrev pub ranges_of : ValueRanges → List ValueRange
ranges_of values = take values.count values.ranges

-- start >= end; a NaN bound passes
abbrev pub is_empty : ValueRange → Bool
is_empty r = le r.end r.start

-- the index of the first empty range, the length where there is none
unfoldable pub first_empty : List ValueRange → ℕ
first_empty [] = 0
first_empty (r ∷ rs) = cond (is_empty r) 0 (suc (first_empty rs))

abbrev pub band_of : ValueRange → (color : ℕ) → LegendBand
band_of r color = record { start = r.start; end = r.end; color = color }

-- a band for each range and colour
unfoldable pub range_bands : List ValueRange → (colors : List ℕ) → List LegendBand
range_bands [] colors = []
range_bands (r ∷ rs) [] = []
range_bands (r ∷ rs) (color ∷ colors) = band_of r color ∷ range_bands rs colors

-- 8 more than 64; 10 some start >= end, with the index of the first; 9 the number of colours given differs from the count
unfoldable pub manual_refusal : ValueRanges → (given : ℕ) → Answer
manual_refusal values given =
    let first = first_empty (ranges_of values) in
    refuse_if (ltb 64 values.count) TooManyBands
    (refuse_if (ltb first values.count) (EmptyRange first)
    (refuse_if (not (eqb given values.count)) ColorCountDiffers Done))
