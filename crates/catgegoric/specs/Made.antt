-- Categoric legends that are asked for, refusals included (docs/RULES.md, "Where each call says no"). Definitions only.
use Rattle.std.specs.Prelude.{ℕ, not, ◌||◌, List, ltb, eqb, ℤ, pos, length, replicate, Result}
use Rattle.refusal.specs.Outcome.{Answer, Done, refuse_if, made_unless}
use Rattle.std.specs.Int.Signed.{lt_z}
use Rattle.refusal.specs.declared.Refusal.{Refusal}
use Rattle.refusal.specs.declared.Refusal.TheVariants.{TooManyCategories, ColorCountDiffers, RangeTooWide, CountAboveCapacity}
use Rattle.lists.specs.Padded.{padded}
use Rattle.colormap.specs.Positions.{ramp_colors}
use Rattle.colormapper.specs.declared.MappingConfig.{MappingConfig}
use Rattle.colormapper.specs.declared.UnmappableColors.{UnmappableColors}
use Rattle.colormapper.specs.Settings.{unmappable_colors}
use Rattle.catgegoric.specs.declared.CategoricNumeric.{CategoricNumeric}
use Rattle.categoric_build.specs.Categories.{Category, categories, keys_of, colors_of}
use Rattle.categoric_lists.specs.Whole.{whole}
use Rattle.categoric_build.specs.Table.{table_size, table}
use Rattle.categoric_lists.specs.Keys.{keys_refusal}
use Rattle.categoric_lists.specs.Range.{range_count, too_wide, count_is, range_keys}

abbrev pub empty_categoric : CategoricNumeric
empty_categoric = record { keys = replicate 256 (pos 0); colors = replicate 256 0; count = 0; lookup = replicate 513 0; lookup_count = 0 }

-- some categories and their table, then zeros
unfoldable pub record_of : List Category → CategoricNumeric
record_of cs =
    record {
      keys = padded (pos 0) 256 (keys_of cs);
      colors = padded 0 256 (colors_of cs);
      count = length cs;
      lookup = padded 0 513 (table (keys_of cs) (colors_of cs));
      lookup_count = table_size (keys_of cs);
    }

-- the record of keys with colours, unless they are refused
unfoldable pub record_unless : Answer → (keys : List ℤ) (colors : List ℕ) → Result CategoricNumeric Refusal
record_unless answer keys colors = made_unless answer (record_of (categories keys colors))

-- ---- by values

-- 11 more than 256
unfoldable pub many_refusal : (count : ℕ) → Answer → Answer
many_refusal count rest = refuse_if (ltb 256 count) TooManyCategories rest

-- 11; 9 the list's length differs
unfoldable pub values_refusal : (count colors : ℕ) → Answer → Answer
values_refusal count colors rest = many_refusal count (refuse_if (not (eqb count colors)) ColorCountDiffers rest)

-- 11; 9; 17
abbrev pub for_values : (values : List ℤ) (colors : List ℕ) → Result CategoricNumeric Refusal
for_values values colors = record_unless (values_refusal (length values) (length colors) (keys_refusal values)) values colors

-- 11; 17. The positions are over the number of values
abbrev pub for_values_from_ramp : (values : List ℤ) (cmap : List ℕ) → Result CategoricNumeric Refusal
for_values_from_ramp values cmap = record_unless (many_refusal (length values) (keys_refusal values)) values (ramp_colors (length values) cmap)

-- ---- by range

-- 12 end - start, or that plus 1, does not fit i64; 11 more than 256
unfoldable pub wide_refusal : (start end : ℤ) → Answer → Answer
wide_refusal start end rest = refuse_if (too_wide start end) RangeTooWide (refuse_if (lt_z (pos 256) (range_count start end)) TooManyCategories rest)

-- 12; 11; 9 the list's length differs from the count
unfoldable pub value_range_refusal : (start end : ℤ) (colors : ℕ) → Answer → Answer
value_range_refusal start end colors rest = wide_refusal start end (refuse_if (not (count_is (range_count start end) colors)) ColorCountDiffers rest)

-- 12; 11; 9; 17
abbrev pub for_value_range : (start end : ℤ) (colors : List ℕ) → Result CategoricNumeric Refusal
for_value_range start end colors = record_unless (value_range_refusal start end (length colors) (keys_refusal (range_keys start end))) (range_keys start end) colors

-- 12; 11; 17
abbrev pub for_value_range_from_ramp : (start end : ℤ) (cmap : List ℕ) → Result CategoricNumeric Refusal
for_value_range_from_ramp start end cmap =
    record_unless (wide_refusal start end (keys_refusal (range_keys start end))) (range_keys start end) (ramp_colors (whole (range_count start end)) cmap)

-- ---- any use of a record

-- 16 a stored count above capacity: 256 categories, 513 table words
unfoldable pub categoric_refusal : (count words : ℕ) → Answer
categoric_refusal count words = refuse_if (ltb 256 count || ltb 513 words) CountAboveCapacity Done

-- absent low and high: nodata
abbrev pub categoric_colors : MappingConfig → UnmappableColors
categoric_colors config = unmappable_colors config config.nodata_color config.nodata_color
