-- What holds of a legend's painter whatever its kind. Assumes nothing.
use Rattle.std.specs.Prelude.{Option}
use mathlib.Core.Path.{◌≡◌, refl}
use mathlib.Core.List.{List}
use lib.Ieee.{Float}
use lib.ListN.{length, length-map}
use Rattle.painting.proofs.Masking.{length-masked}
use Rattle.banded_lanes.proofs.LaneLaw.{lane-length}
use Rattle.banded.specs.Record.{counted}
use Rattle.legend.specs.declared.LegendKind.{LegendKind}
use Rattle.legend.specs.declared.LegendKind.TheVariants as kind
use Rattle.legend.specs.declared.Legend.{Legend}
use Rattle.legend.specs.Record.{stored_in, stored_refusal, simd_in, simd_supported}
use Rattle.legend.specs.Painters.{linear_painter, bands_painter, categoric_painter, painter_in, painter}

module _ (l : Legend) (nodata : (Option Float)) where
  stored_in_lem : (k : LegendKind) → (painter_in k l nodata).stored ≡ stored_in k l
  unfolding linear_painter bands_painter categoric_painter
  stored_in_lem kind.Linear = refl
  stored_in_lem kind.Banded = refl
  stored_in_lem kind.CategoricNumeric = refl

  pub stored_is : (painter l nodata).stored ≡ stored_refusal l
  unfolding painter stored_refusal
  stored_is = stored_in_lem l.kind

  simd_in_lem : (k : LegendKind) → (painter_in k l nodata).simd ≡ simd_in k l
  unfolding linear_painter bands_painter categoric_painter
  simd_in_lem kind.Linear = refl
  simd_in_lem kind.Banded = refl
  simd_in_lem kind.CategoricNumeric = refl

  pub simd-is : (painter l nodata).simd ≡ simd_supported l
  unfolding painter simd_supported
  simd-is = simd_in_lem l.kind

  -- a chunk has a colour for each sample
  long_in : (k : LegendKind) (c : List Float) → length ((painter_in k l nodata).chunk c) ≡ length c
  unfolding linear_painter bands_painter categoric_painter
  long_in kind.Linear c = length-masked _ _ c _ (length-map c _)
  long_in kind.Banded c = length-masked _ _ c _ (lane-length (counted l.banded) _ c)
  long_in kind.CategoricNumeric c = length-masked _ _ c _ (length-map c _)

  pub chunk-long : (c : List Float) → length ((painter l nodata).chunk c) ≡ length c
  unfolding painter
  chunk-long = long_in l.kind
