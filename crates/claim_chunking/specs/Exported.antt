-- The chunking rule of the calls from C: the outcomes that the contracts of the exported painters allow (c_painters), answered 0. Definitions only.
use Rattle.std.specs.Prelude.{Option, ◌≡◌, List, ℕ, ℤ, Float}
use Rattle.std.specs.Float.{binary32}
use Rattle.std.specs.Float.Ieee.{of_bits}
use Rattle.painting.specs.Paintings.{Painter}
use Rattle.banded.specs.declared.Banded.{Banded}
use Rattle.legend.specs.declared.Legend.{Legend}
use Rattle.c_types.specs.declared.answer.LegendAnswer.{LegendAnswer}
use Rattle.c_records.specs.declared.view.LegendView.{LegendView}
use Rattle.c_painters.specs.Painting.{legend_of_view, painter_of_view, PlainOutcome, LaneOutcome}
use Rattle.claim_chunking.specs.Rule.{Raster, samples}

-- what a painter is handed beside raster, nodata value and buffers: the legend, and the flag of the nodata value
pub record Handed : Type 0 where
  pub view : LegendView
  pub banded : Banded
  pub cmap : List ℕ
  pub keys : List ℤ
  pub colors : List ℕ
  pub lookup : List ℕ
  pub nodata_given : ℕ

abbrev pub handed_legend : Handed → Legend
handed_legend h = legend_of_view h.view h.banded h.cmap h.keys h.colors h.lookup

abbrev pub handed_painter : Handed → Option Float → Painter
handed_painter h nodata = painter_of_view h.view h.banded h.cmap h.keys h.colors h.lookup h.nodata_given nodata

-- a bound comes in as an f32, which is what some bits stand for
abbrev pub IsF32 : Float → Type 0
IsF32 x = (bits : ℕ) × (x ≡ of_bits binary32 bits)

abbrev pub BoundsAreF32 : Handed → Type 0
BoundsAreF32 h = IsF32 h.view.start × IsF32 h.view.end

-- what a call of legend_view_paint_f32, _u8 or _i16 leaves that is answered 0, whatever output held before
pub record PlainCalled (h : Handed) (nodata : Option Float) (r : Raster) (output : List ℕ) : Type 0 where
  pub before : List ℕ
  pub result : LegendAnswer
  pub outcome : PlainOutcome (handed_painter h nodata) (samples r) before result output
  pub done : result.number ≡ 0

-- and of legend_view_paint_lanes_f32, _u8 or _i16, whatever output and scratch held before
pub record LanesCalled (h : Handed) (nodata : Option Float) (L : ℕ) (r : Raster) (output : List ℕ) : Type 0 where
  pub before : List ℕ
  pub scratch : List ℕ
  pub scratch_after : List ℕ
  pub result : LegendAnswer
  pub outcome : LaneOutcome (handed_painter h nodata) L (samples r) before scratch result output scratch_after
  pub done : result.number ≡ 0
