-- What the painters of each kind are handed is what the legend's painter says: the sample's rule and the chunk's. Assumes nothing.
use Rattle.std.specs.Prelude.{Option}
use mathlib.Core.Path.{◌≡◌, refl, sym, ap, ap₂, fun_ext, ◌∙◌}
use mathlib.Core.Bool.{Bool, true, false}
use mathlib.Core.List.{List, map}
use Prim.Native.Nat.{ℕ, ◌≤◌, ◌<◌}
use denote.Bor.{Bor}
use borrow.Author.Tests.{lt-ltb}
use lib.Dec.{ltb}
use lib.Ieee.{Float}
use lib.ListN.{length}
use Rattle.colormapper.specs.declared.MappingConfig.{MappingConfig}
use Rattle.colormapper.specs.Unmappable.{unmappable}
use Rattle.colormapper.specs.forms.Exclusions.{excluded, exclusions_of}
use Rattle.colormapper.proofs.Excluding.{excluded-is}
use Rattle.painting.specs.Masked.{masked, masked_color}
use Rattle.linear.specs.declared.Linear.{Linear}
use Rattle.linear.specs.Made.{linear_colors}
use Rattle.linear_rule.specs.Rule as linear
use Rattle.banded_columns.specs.declared.LegendBand.{LegendBand}
use Rattle.banded_rule.specs.PlainRule as bands
use Rattle.banded_lanes.specs.LaneRule as lanes
use Rattle.banded_rule.specs.forms.Columns.{from_columns}
use Rattle.banded.specs.declared.Banded.{Banded}
use Rattle.banded.specs.Record.{counted}
use Rattle.banded.specs.Unmappable.{banded_unmappable}
use Rattle.banded_columns.proofs.Unpacking.{repacked}
use Rattle.categoric_table.specs.Rule as words
use Rattle.categoric_keys.specs.Rule as categories
use Rattle.categoric_keys.proofs.Rules.{with_table, without_table}
use Rattle.catgegoric.specs.declared.CategoricNumeric.{CategoricNumeric}
use Rattle.linear_paint.specs.forms.Samples as linearly
use Rattle.banded_chunk.specs.declared.BandedPaint.{BandedPaint}
use Rattle.banded_chunk.specs.forms.Samples as bandedly
use Rattle.categoric_paint.specs.forms.TableSamples.{table_sample, table_chunk}
use Rattle.categoric_paint.specs.forms.KeySamples.{key_sample}
use Rattle.legend.specs.Painters.{linear_painter, bands_painter, banded_painter, categoric_painter}
use Rattle.legend_view.specs.Borrowed.{borrowed_linear}
use Rattle.legend_paint.specs.forms.Paints.{linear_paint, banded_paint, categoric_paint}

-- the two forms of the test of a sample
test_is : (nodata : (Option Float)) (flag : Bool) → excluded (exclusions_of nodata flag) ≡ unmappable nodata flag
test_is nodata flag = fun_ext (excluded-is nodata flag)

module _ (config : MappingConfig) (nodata : (Option Float)) where
  abbrev tested : excluded (exclusions_of nodata config.zero_is_nodata) ≡ unmappable nodata config.zero_is_nodata
  tested = test_is nodata config.zero_is_nodata

  module _ (cmap : Bor (List ℕ)) (start end : Float) where
    abbrev lent : Linear
    lent = borrowed_linear start end cmap.now

    pub linear-simd : (linear_painter lent config nodata).simd ≡ true
    unfolding linear_painter
    linear-simd = refl

    pub linear_sample : linearly.plain_sample (linear_paint cmap start end config nodata) ≡ (linear_painter lent config nodata).plain
    unfolding linear_painter linear_colors
    linear_sample = ap (λ t. masked_color t config.nodata_color (linear.plain_color cmap.now start end (linear_colors cmap.now config))) tested

    pub linear-chunk : linearly.lane_chunk (linear_paint cmap start end config nodata) ≡ (linear_painter lent config nodata).chunk
    unfolding linear_painter linear_colors
    linear-chunk = ap (λ t vs. masked t config.nodata_color vs (linear.lane_colors cmap.now start end (linear_colors cmap.now config) vs)) tested

  module _ (b : Banded) where
    pub banded-simd : (banded_painter b config nodata).simd ≡ true
    unfolding bands_painter
    banded-simd = refl

    banded_sample : bandedly.plain_sample (counted b) (banded_paint b config nodata) ≡ (banded_painter b config nodata).plain
    unfolding bands_painter
    banded_sample = ap (λ t. masked_color t config.nodata_color (bands.plain_color (counted b) (banded_unmappable (counted b) config))) tested

    banded-chunk : bandedly.lane_chunk (counted b) (banded_paint b config nodata) ≡ (banded_painter b config nodata).chunk
    unfolding bands_painter
    banded-chunk = ap (λ t vs. masked t config.nodata_color vs (lanes.lane_colors (counted b) (banded_unmappable (counted b) config) vs)) tested

    -- the bands, unpacked into three arrays
    module _ {starts ends : List Float} {colors : List ℕ} {p : BandedPaint} (h : b.count ≤ length b.bands) (paint : p ≡ banded_paint b config nodata)
        (e : starts ≡ map (λ (x : LegendBand). x.start) b.bands) (f : ends ≡ map (λ (x : LegendBand). x.end) b.bands)
        (g : colors ≡ map (λ (x : LegendBand). x.color) b.bands) where
      counted_is : from_columns starts ends colors b.count ≡ counted b
      unfolding from_columns
      counted_is =
          ap (λ (s : List Float). from_columns s ends colors b.count) e
          ∙ ap (λ (t : List Float). from_columns (map (λ (x : LegendBand). x.start) b.bands) t colors b.count) f
          ∙ ap (λ (w : List ℕ). from_columns (map (λ (x : LegendBand). x.start) b.bands) (map (λ (x : LegendBand). x.end) b.bands) w b.count) g
          ∙ repacked b.count b.bands h

      pub bands_sample : bandedly.plain_sample (from_columns starts ends colors b.count) p ≡ (banded_painter b config nodata).plain
      bands_sample =
          ap (λ (q : BandedPaint). bandedly.plain_sample (from_columns starts ends colors b.count) q) paint
          ∙ ap (λ (bs : List LegendBand). bandedly.plain_sample bs (banded_paint b config nodata)) counted_is ∙ banded_sample

      pub bands-chunk : bandedly.lane_chunk (from_columns starts ends colors b.count) p ≡ (banded_painter b config nodata).chunk
      bands-chunk =
          ap (λ (q : BandedPaint). bandedly.lane_chunk (from_columns starts ends colors b.count) q) paint
          ∙ ap (λ (bs : List LegendBand). bandedly.lane_chunk bs (banded_paint b config nodata)) counted_is ∙ banded-chunk

  module _ (c : CategoricNumeric) where
    pub table-simd : 0 < c.lookup_count → (categoric_painter c config nodata).simd ≡ true
    unfolding categoric_painter
    table-simd h = lt-ltb 0 c.lookup_count h

    pub keys-simd : c.lookup_count ≡ 0 → (categoric_painter c config nodata).simd ≡ false
    unfolding categoric_painter
    keys-simd e = ap (ltb 0) e

    pub table_sample_lem : 0 < c.lookup_count → table_sample c.lookup c.lookup_count (categoric_paint config nodata)
        ≡ (categoric_painter c config nodata).plain
    unfolding categoric_painter
    table_sample_lem h =
        ap₂ (λ t rule. masked_color t config.nodata_color rule) tested
        (fun_ext (with_table c.keys c.colors c.count c.lookup c.lookup_count config.nodata_color h))

    pub table-chunk : table_chunk c.lookup c.lookup_count (categoric_paint config nodata) ≡ (categoric_painter c config nodata).chunk
    unfolding categoric_painter
    table-chunk = ap (λ t vs. masked t config.nodata_color vs (words.lane_colors c.lookup c.lookup_count config.nodata_color vs)) tested

    pub key_sample_lem : c.lookup_count ≡ 0 → key_sample c.keys c.colors c.count (categoric_paint config nodata) ≡ (categoric_painter c config nodata).plain
    unfolding categoric_painter
    key_sample_lem e =
        ap₂ (λ t rule. masked_color t config.nodata_color rule) tested
        (fun_ext (without_table c.keys c.colors c.count c.lookup 0 config.nodata_color)
        ∙ ap (λ (size : ℕ). categories.plain_color c.keys c.colors c.count c.lookup size config.nodata_color) (sym e))
