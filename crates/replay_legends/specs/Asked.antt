-- The legend that a row asks for: its kind's builder with what the row gives it, or a record as the row stores it. Definitions only.
use Rattle.std.specs.Prelude.{Result, Ok, None, Bool, cond, List, ℕ, ◌/◌, ◌%◌, ltb, eqb, Option, Some, Float, pos, get_or}
use Rattle.lists.specs.Padded.{padded}
use Rattle.lists.specs.Tabulate.{tabulate}
use Rattle.refusal.specs.declared.Refusal.{Refusal}
use Rattle.refusal.specs.Outcome.{made_or}
use Rattle.colormap.specs.declared.ProcessedColorMap.{ProcessedColorMap}
use Rattle.colormap.specs.Positions.{ramp_colors}
use Rattle.colormap.specs.Made.{empty_ramp, ramp_of_list, ramp_of_preset}
use Rattle.colormapper.specs.declared.MappingConfig.{MappingConfig}
use Rattle.linear.specs.Made.{linear_of_ramp, linear_of_list}
use Rattle.banded_lists.specs.Padded.{padded_bands}
use Rattle.banded.specs.EqualBands.{with_equal_bands}
use Rattle.banded.specs.ManualRanges.{with_manual_ranges}
use Rattle.catgegoric.specs.Made.{for_values, for_values_from_ramp, for_value_range, for_value_range_from_ramp}
use Rattle.legend.specs.declared.Legend.{Legend}
use Rattle.legend.specs.Record.{linear_legend, banded_legend, categoric_legend}
use Rattle.legend_builders.specs.Building.{linear_with_settings, banded_with_settings, categoric_with_settings}
use Rattle.words.specs.Values.{float_of, whole_of, at_most}
use Rattle.replay_rows.specs.declared.kind.RowKind.{RowKind}
use Rattle.replay_rows.specs.declared.kind.RowKind.TheVariants as kind
use Rattle.replay_rows.specs.Kinds.{kind_from}
use Rattle.replay_rows.specs.Parts.{values_at, words_at}
use Rattle.replay_legends.specs.Lists.{list_of, row_keys, row_ranges, row_band}

-- ---- settings and colours
abbrev pub optional_of : Bool → ℕ → Option ℕ
optional_of given color = cond given (Some color) None

unfoldable pub row_settings : (row : List ℕ) → MappingConfig
row_settings row =
    let flags = get_or row 4 0 in
    record {
      nodata_color = get_or row 3 0;
      out_of_range_low_color = optional_of (eqb (flags % 2) 1) (get_or row 5 0);
      out_of_range_high_color = optional_of (eqb (flags / 2 % 2) 1) (get_or row 6 0);
      zero_is_nodata = eqb (flags / 4 % 2) 1;
    }

-- by a palette's number, or by the list
abbrev pub by_source : {A : Type 0} → (row : List ℕ) → A → A → A
by_source row palette list = cond (ltb (get_or row 1 0) 32) palette list

unfoldable pub ramp_of : (row : List ℕ) → Result ProcessedColorMap Refusal
ramp_of row = by_source row (ramp_of_preset (get_or row 1 0)) (ramp_of_list (list_of row))

-- where the palette is refused it is TRANSPARENT throughout
abbrev pub cmap_of : (row : List ℕ) → List ℕ
cmap_of row = (made_or (ramp_of_preset (get_or row 1 0)) empty_ramp).cmap

-- ---- by a builder
abbrev pub start_of : (row : List ℕ) → Float
start_of row = float_of (get_or row 32 0)

abbrev pub end_of : (row : List ℕ) → Float
end_of row = float_of (get_or row 33 0)

unfoldable pub linear_of : (row : List ℕ) → MappingConfig → Result Legend Refusal
linear_of row config =
    linear_with_settings (by_source row (linear_of_ramp (start_of row) (end_of row) (cmap_of row)) (linear_of_list (start_of row) (end_of row) (list_of row))) config

unfoldable pub equal_bands_of : (row : List ℕ) → MappingConfig → Result Legend Refusal
equal_bands_of row config =
    let count = get_or row 10 0 in
    banded_with_settings (with_equal_bands count (start_of row) (end_of row) (by_source row (ramp_colors count (cmap_of row)) (list_of row))) config

unfoldable pub manual_ranges_of : (row : List ℕ) → MappingConfig → Result Legend Refusal
manual_ranges_of row config =
    let values = row_ranges row in
    banded_with_settings (with_manual_ranges values (by_source row (ramp_colors values.count (cmap_of row)) (list_of row))) config

unfoldable pub categories_of : (row : List ℕ) → MappingConfig → Result Legend Refusal
categories_of row config = categoric_with_settings (by_source row (for_values_from_ramp (row_keys row) (cmap_of row)) (for_values (row_keys row) (list_of row))) config

unfoldable pub category_range_of : (row : List ℕ) → MappingConfig → Result Legend Refusal
category_range_of row config =
    let first = whole_of (get_or row 32 0) in
    let last = whole_of (get_or row 33 0) in
    categoric_with_settings (by_source row (for_value_range_from_ramp first last (cmap_of row)) (for_value_range first last (list_of row))) config

-- ---- records that no builder made
unfoldable pub bands_given : (row : List ℕ) → MappingConfig → Legend
bands_given row config = banded_legend (record { bands = padded_bands (tabulate 16 (row_band row)); count = at_most (get_or row 10 0) 16 }) config

unfoldable pub linear_stored : (row : List ℕ) → MappingConfig → Legend
linear_stored row config = linear_legend (record { start = start_of row; end = end_of row; cmap = cmap_of row }) config

unfoldable pub categories_stored : (row : List ℕ) → MappingConfig → Legend
categories_stored row config =
    categoric_legend
    (record {
      keys = padded (pos 0) 256 (values_at whole_of 32 16 row);
      colors = padded 0 256 (words_at 16 16 row);
      count = at_most (get_or row 10 0) 16;
      lookup = padded 0 513 (words_at 64 16 row);
      lookup_count = at_most (get_or row 11 0) 16;
    })
    config

-- ---- the legend of a row, by its kind
abbrev pub legend_in : Option RowKind → (row : List ℕ) → MappingConfig → Result Legend Refusal
legend_in (Some kind.Linear) row config = linear_of row config
legend_in (Some kind.EqualBands) row config = equal_bands_of row config
legend_in (Some kind.ManualRanges) row config = manual_ranges_of row config
legend_in (Some kind.BandsGiven) row config = Ok (bands_given row config)
legend_in (Some kind.CategoriesByValues) row config = categories_of row config
legend_in (Some kind.CategoriesByRange) row config = category_range_of row config
legend_in (Some kind.LinearStored) row config = Ok (linear_stored row config)
legend_in _ row config = Ok (categories_stored row config)

unfoldable pub row_legend : (row : List ℕ) → Result Legend Refusal
row_legend row = legend_in (kind_from (get_or row 0 0)) row (row_settings row)
