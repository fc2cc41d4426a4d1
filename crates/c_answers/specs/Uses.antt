-- The colour of a sample, the whole range of values and the list of colours as C reads them. What the call's own arguments are refused by comes first.
-- Definitions only.
use Rattle.std.specs.Prelude.{ℕ, List, replicate, Result}
use Rattle.floats.specs.RampIndex.{nought}
use Rattle.refusal.specs.declared.Refusal.{Refusal}
use Rattle.refusal.specs.Outcome.{Answer, if_done, first_of, answer_of, made_or}
use Rattle.banded_lists.specs.declared.ValueRange.{ValueRange}
use Rattle.legend_range.specs.ValueRanges.{from_to}
use Rattle.c_answers.specs.declared.colors.LegendColor.{LegendColor}
use Rattle.c_answers.specs.declared.uses.LegendValueRange.{LegendValueRange}
use Rattle.c_answers.specs.declared.uses.LegendColorList.{LegendColorList}
use Rattle.c_types.specs.Answers.{answer_to_c}

-- the colour 0 beside a refusal
unfoldable pub pixel_to_c : (first : Answer) → Result ℕ Refusal → LegendColor
pixel_to_c first p = record { answer = answer_to_c (first_of first (answer_of p)); color = if_done first (made_or p 0) 0 }

-- 0 and 0 beside a refusal
unfoldable pub range_to_c : (first : Answer) → Result ValueRange Refusal → LegendValueRange
range_to_c first r =
    let none = from_to nought nought in
    record {
      answer = answer_to_c (first_of first (answer_of r));
      start = if_done first (made_or r none).start nought;
      end = if_done first (made_or r none).end nought;
    }

-- TRANSPARENT throughout beside a refusal
unfoldable pub list_to_c : (first : Answer) → Result (List ℕ) Refusal → LegendColorList
list_to_c first l =
    record { answer = answer_to_c (first_of first (answer_of l)); colors = if_done first (made_or l (replicate 256 0)) (replicate 256 0) }
