-- A form of the code: what the painters of each kind are handed, of a record, its settings and a nodata value. That they then paint by the legend's rules is
-- proofs/Same.antt. Definitions only.
use Rattle.std.specs.Prelude.{ℕ, List, Float, Option}
use Rattle.std.specs.Borrow.{Bor}
use Rattle.colormapper.specs.declared.MappingConfig.{MappingConfig}
use Rattle.colormapper.specs.forms.Exclusions.{exclusions_of}
use Rattle.linear.specs.Made.{linear_colors}
use Rattle.banded.specs.declared.Banded.{Banded}
use Rattle.banded.specs.Record.{counted}
use Rattle.banded.specs.Unmappable.{banded_unmappable}
use Rattle.linear_paint.specs.declared.LinearPaint.{LinearPaint}
use Rattle.banded_chunk.specs.declared.BandedPaint.{BandedPaint}
use Rattle.categoric_paint.specs.declared.CategoricPaint.{CategoricPaint}

abbrev pub linear_paint : (cmap : Bor (List ℕ)) (start end : Float) → MappingConfig → Option Float → LinearPaint
linear_paint cmap start end config nodata =
    record { rule = record { cmap = cmap; start = start; end = end; colors = linear_colors cmap.now config }; exclusions = exclusions_of nodata config.zero_is_nodata }

abbrev pub banded_paint : Banded → MappingConfig → Option Float → BandedPaint
banded_paint b config nodata =
    record { unmappable = banded_unmappable (counted b) config; exclusions = exclusions_of nodata config.zero_is_nodata }

abbrev pub categoric_paint : MappingConfig → Option Float → CategoricPaint
categoric_paint config nodata = record { nodata = config.nodata_color; exclusions = exclusions_of nodata config.zero_is_nodata }
