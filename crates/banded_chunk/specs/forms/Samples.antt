-- A form of the code: the colours of a sample and of a chunk of a banded legend, by what the painter is handed. That these are the legend's rules is
-- legend_paint/proofs/Same.antt (bands_sample, bands-chunk). Definitions only.
use Rattle.std.specs.Prelude.{ℕ, List, Float}
use Rattle.colormapper.specs.forms.Exclusions.{excluded}
use Rattle.painting.specs.Masked.{masked, masked_color}
use Rattle.banded_columns.specs.declared.LegendBand.{LegendBand}
use Rattle.banded_rule.specs.PlainRule.{plain_color}
use Rattle.banded_lanes.specs.LaneRule.{lane_colors}
use Rattle.banded_chunk.specs.declared.BandedPaint.{BandedPaint}

abbrev pub plain_sample : List LegendBand → BandedPaint → Float → ℕ
plain_sample bands p = masked_color (excluded p.exclusions) p.unmappable.nodata (plain_color bands p.unmappable)

abbrev pub lane_chunk : List LegendBand → BandedPaint → List Float → List ℕ
lane_chunk bands p vs = masked (excluded p.exclusions) p.unmappable.nodata vs (lane_colors bands p.unmappable vs)
