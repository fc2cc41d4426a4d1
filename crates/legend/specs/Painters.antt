-- What each kind of legend is painted by: its two rules, for a nodata value (docs/RULES.md, "Samples and settings", "Linear", "Banded", "Categoric").
-- Definitions only.
use Rattle.std.specs.Prelude.{Option, ℕ, Bool, true, List, ltb, Float}
use Rattle.refusal.specs.Outcome.{Answer, Done}
use Rattle.colormapper.specs.declared.MappingConfig.{MappingConfig}
use Rattle.colormapper.specs.Unmappable.{unmappable}
use Rattle.painting.specs.Paintings.{Painter}
use Rattle.painting.specs.Masked.{painter_of}
use Rattle.linear.specs.declared.Linear.{Linear}
use Rattle.linear.specs.Made.{linear_colors}
use Rattle.linear_rule.specs.Rule as linear
use Rattle.banded_columns.specs.declared.LegendBand.{LegendBand}
use Rattle.banded_rule.specs.PlainRule as bands
use Rattle.banded_lanes.specs.LaneRule as lanes
use Rattle.banded.specs.declared.Banded.{Banded}
use Rattle.banded.specs.Record.{counted, banded_refusal}
use Rattle.banded.specs.Unmappable.{banded_unmappable}
use Rattle.categoric_table.specs.Rule as words
use Rattle.categoric_keys.specs.Rule as categories
use Rattle.catgegoric.specs.declared.CategoricNumeric.{CategoricNumeric}
use Rattle.catgegoric.specs.Made.{categoric_refusal}
use Rattle.legend.specs.declared.LegendKind.{LegendKind}
use Rattle.legend.specs.declared.LegendKind.TheVariants as kind
use Rattle.legend.specs.declared.Legend.{Legend}

-- unmappable samples get the nodata colour, the others the colour of a rule
abbrev pub masked_painter : (stored : Answer) (simd : Bool) → MappingConfig → Option Float → (plain : Float → ℕ) (lanes : List Float → List ℕ) → Painter
masked_painter stored simd config nodata = painter_of stored simd (unmappable nodata config.zero_is_nodata) config.nodata_color

unfoldable pub linear_painter : Linear → MappingConfig → Option Float → Painter
linear_painter l config nodata =
    let colors = linear_colors l.cmap config in
    masked_painter Done true config nodata (linear.plain_color l.cmap l.start l.end colors) (linear.lane_colors l.cmap l.start l.end colors)

-- by a list of bands
unfoldable pub bands_painter : (stored : Answer) → List LegendBand → MappingConfig → Option Float → Painter
bands_painter stored bs config nodata =
    let colors = banded_unmappable bs config in
    masked_painter stored true config nodata (bands.plain_color bs colors) (lanes.lane_colors bs colors)

-- the bands that are counted
abbrev pub banded_painter : Banded → MappingConfig → Option Float → Painter
banded_painter b config nodata = bands_painter (banded_refusal b.count) (counted b) config nodata

-- without a table it has no rule for lanes
unfoldable pub categoric_painter : CategoricNumeric → MappingConfig → Option Float → Painter
categoric_painter c config nodata =
    masked_painter (categoric_refusal c.count c.lookup_count) (ltb 0 c.lookup_count) config nodata
    (categories.plain_color c.keys c.colors c.count c.lookup c.lookup_count config.nodata_color)
    (words.lane_colors c.lookup c.lookup_count config.nodata_color)

abbrev pub painter_in : LegendKind → Legend → Option Float → Painter
painter_in kind.Linear l nodata = linear_painter l.linear l.mapping_config nodata
painter_in kind.Banded l nodata = banded_painter l.banded l.mapping_config nodata
painter_in kind.CategoricNumeric l nodata = categoric_painter l.categoric l.mapping_config nodata

unfoldable pub painter : Legend → Option Float → Painter
painter l nodata = painter_in l.kind l nodata
