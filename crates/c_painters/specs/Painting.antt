-- Painting as C calls it: by the legend that is borrowed, refused first by what the call's own flags and kind are refused by; the answer as C reads it.
-- Definitions only.
use Rattle.std.specs.Prelude.{Option, ℕ, ◌≡◌, List, ℤ, Float}
use Rattle.painting.specs.Paintings.{Painter, refused_first, plain_answer, lane_answer, PlainPainting, LanePainting}
use Rattle.banded.specs.declared.Banded.{Banded}
use Rattle.legend.specs.declared.Legend.{Legend}
use Rattle.legend.specs.Painters.{painter}
use Rattle.c_types.specs.declared.answer.LegendAnswer.{LegendAnswer}
use Rattle.c_types.specs.Answers.{answer_to_c}
use Rattle.c_types.specs.Refusals.{use_refusal}
use Rattle.c_records.specs.declared.view.LegendView.{LegendView}
use Rattle.c_records.specs.Views.{view_from_c}

-- the legend that is borrowed
abbrev pub legend_of_view : LegendView → Banded → (cmap : List ℕ) (keys : List ℤ) (colors lookup : List ℕ) → Legend
legend_of_view view banded cmap keys colors lookup = view_from_c view banded cmap keys colors lookup

abbrev pub painter_of_view : LegendView → Banded → (cmap : List ℕ) (keys : List ℤ) (colors lookup : List ℕ) → (nodata_given : ℕ) → Option Float → Painter
painter_of_view view banded cmap keys colors lookup nodata_given nodata =
    refused_first (use_refusal view.settings view.kind nodata_given) (painter (legend_of_view view banded cmap keys colors lookup) nodata)

-- what a call leaves: its result, and the painting that this result is the answer of
pub record PlainOutcome (p : Painter) (xs : List Float) (out : List ℕ) (result : LegendAnswer) (out' : List ℕ) : Type 0 where
  pub answer : result ≡ answer_to_c (plain_answer p xs out)
  pub painting : PlainPainting p xs out (plain_answer p xs out) out'

pub record LaneOutcome (p : Painter) (L : ℕ) (xs : List Float) (out scratch : List ℕ) (result : LegendAnswer) (out' scratch' : List ℕ) : Type 0 where
  pub answer : result ≡ answer_to_c (lane_answer p L xs out scratch)
  pub painting : LanePainting p L xs out scratch (lane_answer p L xs out scratch) out' scratch'
