-- A row worked out anew, by its kind. Definitions only.
use Rattle.std.specs.Prelude.{List, ℕ, Option, Some, None, get_or, replicate}
use Rattle.refusal.specs.Outcome.{answer_of, made_or}
use Rattle.legend.specs.Record.{empty_legend}
use Rattle.legend_range.specs.ValueRanges.{total_value_range}
use Rattle.legend_apply.specs.ColorLists.{color_list}
use Rattle.replay_rows.specs.declared.kind.RowKind.{RowKind}
use Rattle.replay_rows.specs.declared.kind.RowKind.TheVariants as kind
use Rattle.replay_rows.specs.Kinds.{kind_from}
use Rattle.replay_rows.specs.Parts.{put_at}
use Rattle.replay_legends.specs.Asked.{row_legend}
use Rattle.replay_calls.specs.Replies.{with_answer, with_range}
use Rattle.replay_calls.specs.Records.{with_record}
use Rattle.replay_calls.specs.Rows.{asked, palette_row, hex_row, lookup_row, truncated_row}
use Rattle.replay_paintings.specs.Paintings.{paintings_of, with_paintings}

-- the answer, the range of values, what the legend holds, its colours, its paintings; beside a refusal those of the empty legend. Colours that are refused are 0
unfoldable pub legend_row : (row : List ℕ) → List ℕ
legend_row row =
    let made = row_legend row in
    let legend = made_or made empty_legend in
    with_paintings (paintings_of legend row)
    (put_at 392 (made_or (color_list legend) (replicate 256 0))
    (with_record legend
    (with_range (total_value_range legend)
    (with_answer (answer_of made)
    (asked row)))))

-- by its kind; a row of no kind has no answers
abbrev pub worked_in : Option RowKind → (row : List ℕ) → List ℕ
worked_in (Some kind.Palette) row = palette_row row
worked_in (Some kind.HexText) row = hex_row row
worked_in (Some kind.RampLookups) row = lookup_row row
worked_in (Some kind.WholeNumbers) row = truncated_row row
worked_in (Some _) row = legend_row row
worked_in None row = asked row

unfoldable pub worked_row : (row : List ℕ) → List ℕ
worked_row row = worked_in (kind_from (get_or row 0 0)) row
