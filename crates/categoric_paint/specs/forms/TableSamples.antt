-- A form of the code: the colours of a sample and of a chunk by a table, by what the painter is handed. That these are the legend's rules is
-- legend_paint/proofs/Same.antt (table_sample_lem, table-chunk). Definitions only.
use Rattle.std.specs.Prelude.{ℕ, List, Float}
use Rattle.colormapper.specs.forms.Exclusions.{excluded}
use Rattle.painting.specs.Masked.{masked, masked_color}
use Rattle.categoric_table.specs.Rule.{table_color, lane_colors}
use Rattle.categoric_paint.specs.declared.CategoricPaint.{CategoricPaint}

abbrev pub table_sample : (lookup : List ℕ) (size : ℕ) → CategoricPaint → Float → ℕ
table_sample lookup size p = masked_color (excluded p.exclusions) p.nodata (table_color lookup size p.nodata)

abbrev pub table_chunk : (lookup : List ℕ) (size : ℕ) → CategoricPaint → List Float → List ℕ
table_chunk lookup size p vs = masked (excluded p.exclusions) p.nodata vs (lane_colors lookup size p.nodata vs)
