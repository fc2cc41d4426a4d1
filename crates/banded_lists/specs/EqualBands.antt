-- Equal bands (docs/RULES.md, "Banded" and "Where each call says no"). Definitions only.
use Rattle.std.specs.Prelude.{ℕ, zero, suc, not, List, ltb, eqb, pos, Float, get_or}
use Rattle.refusal.specs.Outcome.{Answer, Done, refuse_if}
use Rattle.std.specs.Float.{binary32}
use Rattle.std.specs.Float.Ieee.{add, sub, div, lt, of_int}
use Rattle.lists.specs.Tabulate.{tabulate}
use Rattle.refusal.specs.declared.Refusal.TheVariants.{StartAboveEnd, TooManyBands, ColorCountDiffers}
use Rattle.banded_columns.specs.declared.LegendBand.{LegendBand}

-- (end - start) / count
unfoldable pub band_step : (count : ℕ) (start end : Float) → Float
band_step count start end = div binary32 (sub binary32 end start) (of_int binary32 (pos count))

-- the position of band k: start, start + step, start + step + step, ..
unfoldable pub band_start : (start step : Float) (k : ℕ) → Float
band_start start step zero = start
band_start start step (suc k) = add binary32 (band_start start step k) step

-- a band from a position to position + step
abbrev pub band_from : (position step : Float) (color : ℕ) → LegendBand
band_from position step color = record { start = position; end = add binary32 position step; color = color }

-- `count` bands, band k with colour k
unfoldable pub equal_bands : (count : ℕ) (start end : Float) (colors : List ℕ) → List LegendBand
equal_bands count start end colors = let step = band_step count start end in tabulate count (λ k. band_from (band_start start step k) step (get_or colors k 0))

-- 7 start > end; 8 count above 64; 9 the number of colours given differs from count
unfoldable pub equal_refusal : (count : ℕ) (start end : Float) (given : ℕ) → Answer
equal_refusal count start end given =
    refuse_if (lt end start) StartAboveEnd (refuse_if (ltb 64 count) TooManyBands (refuse_if (not (eqb given count)) ColorCountDiffers Done))
