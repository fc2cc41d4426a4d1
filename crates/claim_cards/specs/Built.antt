-- What a builder makes, the writer takes: of such a record nothing is refused, so that 20, by the title or the buffer, is all that can be. Definitions only.
use Rattle.std.specs.Prelude.{Result, Ok, ◌≡◌, true, List, ℕ, Float, ℤ}
use Rattle.refusal.specs.declared.Refusal.{Refusal}
use Rattle.refusal.specs.Outcome.{Done}
use Rattle.colormapper.specs.declared.MappingConfig.{MappingConfig}
use Rattle.linear.specs.Made.{linear_of_ramp, linear_of_list}
use Rattle.banded_columns.specs.declared.LegendBand.{LegendBand}
use Rattle.banded_lists.specs.declared.ValueRanges.{ValueRanges}
use Rattle.banded.specs.EqualBands.{with_equal_bands}
use Rattle.banded.specs.ManualRanges.{with_manual_ranges}
use Rattle.banded.specs.Given.{with_bands_given}
use Rattle.catgegoric.specs.Made.{for_values, for_values_from_ramp, for_value_range, for_value_range_from_ramp}
use Rattle.legend.specs.declared.Legend.{Legend}
use Rattle.legend.specs.Record.{stored_refusal}
use Rattle.legend_builders.specs.Building.{linear_with_settings, banded_with_settings, categoric_with_settings}
use Rattle.card_layout.specs.Stored.{in_order}
use Rattle.card_layout.specs.Refusals.{bounds_refusal}

-- neither 16 nor 7
pub record Writable (l : Legend) : Type 0 where
  pub stored : stored_refusal l ≡ Done
  pub ordered : in_order l ≡ true
  pub bounds : bounds_refusal l ≡ Done

abbrev pub Taken : Result Legend Refusal → Type 0
Taken made = (legend : Legend) → made ≡ Ok legend → Writable legend

-- by every builder; the colours of bands are those of a list, or of a ramp
pub record BuildersTaken (config : MappingConfig) : Type 0 where
  pub of_ramp : (start end : Float) (cmap : List ℕ) → Taken (linear_with_settings (linear_of_ramp start end cmap) config)
  pub of_list : (start end : Float) (colors : List ℕ) → Taken (linear_with_settings (linear_of_list start end colors) config)
  pub equal_bands_lem : (count : ℕ) (start end : Float) (colors : List ℕ) → Taken (banded_with_settings (with_equal_bands count start end colors) config)
  pub manual_ranges_lem : (values : ValueRanges) (colors : List ℕ) → Taken (banded_with_settings (with_manual_ranges values colors) config)
  pub bands-given : (bands : List LegendBand) → Taken (banded_with_settings (with_bands_given bands) config)
  pub values : (values : List ℤ) (colors : List ℕ) → Taken (categoric_with_settings (for_values values colors) config)
  pub values_of_ramp : (values : List ℤ) (cmap : List ℕ) → Taken (categoric_with_settings (for_values_from_ramp values cmap) config)
  pub range : (start end : ℤ) (colors : List ℕ) → Taken (categoric_with_settings (for_value_range start end colors) config)
  pub range_of_ramp : (start end : ℤ) (cmap : List ℕ) → Taken (categoric_with_settings (for_value_range_from_ramp start end cmap) config)
