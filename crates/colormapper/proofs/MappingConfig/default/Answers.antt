-- `MappingConfig::default` meets its contract. Assumes nothing.
use Rattle.std.specs.Prelude.{None}
use mathlib.Core.Bool.{false}
use Rattle.colormapper.proofs.MappingConfig.default.Goals as goal

pub returns : goal.returns
returns c =
    λ j. record { nodata_color = c.to_bits.ensures j; out_of_range_low_color = None; out_of_range_high_color = None; zero_is_nodata = false }
