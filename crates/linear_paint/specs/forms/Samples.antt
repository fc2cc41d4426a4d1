-- A form of the code: the colours of a sample and of a chunk of a linear legend, by what the painter is handed. That these are the legend's rules is
-- legend_paint/proofs/Same.antt (linear_sample, linear-chunk). Definitions only.
use Rattle.std.specs.Prelude.{ℕ, List, Float}
use Rattle.colormapper.specs.forms.Exclusions.{excluded}
use Rattle.painting.specs.Masked.{masked, masked_color}
use Rattle.linear_rule.specs.Rule.{lane_colors}
use Rattle.linear_rule.specs.forms.LinearRules.{plain_color_by, lane_color_by}
use Rattle.linear_paint.specs.declared.LinearPaint.{LinearPaint}

abbrev pub plain_sample : LinearPaint → Float → ℕ
plain_sample p = masked_color (excluded p.exclusions) p.rule.colors.nodata (plain_color_by p.rule)

abbrev pub lane_sample : LinearPaint → Float → ℕ
lane_sample p = masked_color (excluded p.exclusions) p.rule.colors.nodata (lane_color_by p.rule)

abbrev pub lane_chunk : LinearPaint → List Float → List ℕ
lane_chunk p vs = masked (excluded p.exclusions) p.rule.colors.nodata vs (lane_colors p.rule.cmap.now p.rule.start p.rule.end p.rule.colors vs)
