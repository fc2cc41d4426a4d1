-- The words of what a legend holds. Definitions only.
use Rattle.std.specs.Prelude.{List, [], ◌∷◌, map, ℕ, ◌+◌, ◌*◌, ◌%◌, Float, ℤ, pos, get_or}
use Rattle.std.specs.Float.{nan}
use mir.Val.{bool_byte}
use Rattle.lists.specs.Tabulate.{tabulate}
use Rattle.colormapper.specs.declared.MappingConfig.{MappingConfig}
use Rattle.colormapper.specs.Settings.{or_else, given_flag}
use Rattle.banded_columns.specs.declared.LegendBand.{LegendBand}
use Rattle.banded.specs.declared.Banded.{Banded}
use Rattle.catgegoric.specs.declared.CategoricNumeric.{CategoricNumeric}
use Rattle.legend.specs.declared.LegendKind.{LegendKind}
use Rattle.legend.specs.declared.LegendKind.TheVariants as kind
use Rattle.legend.specs.declared.Legend.{Legend}
use Rattle.legend.specs.Record.{kind_number}
use Rattle.words.specs.Values.{bits_of, low_of}
use Rattle.replay_rows.specs.Parts.{put_at}

-- ---- ten words
-- the flags of a row's settings
unfoldable pub flags_word : MappingConfig → ℕ
flags_word config = given_flag config.out_of_range_low_color + 2 * given_flag config.out_of_range_high_color + 4 * bool_byte config.zero_is_nodata

unfoldable pub head_words : Legend → List ℕ
head_words l =
    let config = l.mapping_config in
    kind_number l.kind
    ∷ config.nodata_color
    ∷ flags_word config
    ∷ or_else config.out_of_range_low_color 0
    ∷ or_else config.out_of_range_high_color 0
    ∷ bits_of l.linear.start
    ∷ bits_of l.linear.end
    ∷ l.banded.count % 4294967296
    ∷ l.categoric.count % 4294967296
    ∷ l.categoric.lookup_count % 4294967296
    ∷ []

-- ---- the arrays of the kind
unfoldable pub float_words : List Float → List ℕ
float_words floats = tabulate 64 (λ k. bits_of (get_or floats k nan))

unfoldable pub key_words : List ℤ → List ℕ
key_words keys = tabulate 256 (λ k. low_of (get_or keys k (pos 0)))

-- starts, ends, colours
unfoldable pub with_bands : Banded → List ℕ → List ℕ
with_bands banded row =
    let bands = banded.bands in
    put_at 776 (map (λ (b : LegendBand). b.color) bands)
    (put_at 712 (float_words (map (λ (b : LegendBand). b.end) bands)) (put_at 648 (float_words (map (λ (b : LegendBand). b.start) bands)) row))

-- keys, colours, table
unfoldable pub with_categories : CategoricNumeric → List ℕ → List ℕ
with_categories c row = put_at 1160 c.lookup (put_at 904 c.colors (put_at 648 (key_words c.keys) row))

abbrev pub with_arrays : LegendKind → Legend → List ℕ → List ℕ
with_arrays kind.Linear l row = put_at 648 l.linear.cmap row
with_arrays kind.Banded l row = with_bands l.banded row
with_arrays kind.CategoricNumeric l row = with_categories l.categoric row

unfoldable pub with_record : Legend → List ℕ → List ℕ
with_record l row = with_arrays l.kind l (put_at 132 (head_words l) row)
