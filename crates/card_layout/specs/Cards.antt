-- The card of a legend, and the legend on a card (docs/RULES.md, "Cards"). Definitions only.
use Rattle.std.specs.Prelude.{ℕ, ◌*◌, Bool, ◌&&◌, List, leb, eqb, length}
use Rattle.lists.specs.Each.{each}
use Rattle.colormapper.specs.declared.MappingConfig.{MappingConfig}
use Rattle.colormapper.specs.Settings.{or_else}
use Rattle.banded.specs.Record.{banded_of, counted}
use Rattle.categoric_build.specs.Categories.{keys_of}
use Rattle.catgegoric.specs.Made.{record_of}
use Rattle.legend.specs.declared.LegendKind.{LegendKind}
use Rattle.legend.specs.declared.LegendKind.TheVariants as kind
use Rattle.legend.specs.declared.Legend.{Legend}
use Rattle.legend.specs.Record.{kind_number, kind_numbered, linear_legend, banded_legend, categoric_legend}
use Rattle.card_bytes.specs.Entries.{entries_of, entries_in}
use Rattle.card_layout.specs.Fields.{Fields, bytes_of_fields, fields_in}
use Rattle.card_layout.specs.Settings.{flags_of, settings_in, settings_fit}
use Rattle.card_layout.specs.Entries.{linear_bytes, linear_in, band_bytes, band_in, category_bytes, category_in, bounds_canonical}
use Rattle.card_layout.specs.Stored.{counted_categories, keys_in_order}

-- ---- written
abbrev pub count_in : LegendKind → Legend → ℕ
count_in kind.Linear l = 256
count_in kind.Banded l = l.banded.count
count_in kind.CategoricNumeric l = l.categoric.count

abbrev pub entries_from : LegendKind → Legend → List ℕ
entries_from kind.Linear l = linear_bytes l.linear
entries_from kind.Banded l = entries_of band_bytes (counted l.banded)
entries_from kind.CategoricNumeric l = entries_of category_bytes (counted_categories l.categoric)

unfoldable pub fields_of : (title : List ℕ) → Legend → Fields
fields_of title l =
    let config = l.mapping_config in
    record {
      kind = kind_number l.kind;
      title = title;
      nodata = config.nodata_color;
      flags = flags_of config;
      low = or_else config.out_of_range_low_color 0;
      high = or_else config.out_of_range_high_color 0;
      count = count_in l.kind l;
      entries = entries_from l.kind l;
    }

unfoldable pub card_of : (title : List ℕ) → Legend → List ℕ
card_of title l = bytes_of_fields (fields_of title l)

-- ---- read, by kind: how many entries there may be, how many bytes they have, and what else they keep to
abbrev pub entries_fit_in : LegendKind → (count : ℕ) (entries : List ℕ) → Bool
entries_fit_in kind.Linear count entries = eqb count 256 && eqb (length entries) 1032 && bounds_canonical entries
entries_fit_in kind.Banded count entries =
    leb count 64 && eqb (length entries) (12 * count) && each bounds_canonical (entries_in 12 count (λ entry. entry) entries)
entries_fit_in kind.CategoricNumeric count entries =
    leb count 256 && eqb (length entries) (12 * count) && keys_in_order (keys_of (entries_in 12 count category_in entries))

abbrev pub legend_from : LegendKind → (count : ℕ) (entries : List ℕ) → MappingConfig → Legend
legend_from kind.Linear count entries config = linear_legend (linear_in entries) config
legend_from kind.Banded count entries config = banded_legend (banded_of (entries_in 12 count band_in entries)) config
legend_from kind.CategoricNumeric count entries config = categoric_legend (record_of (entries_in 12 count category_in entries)) config

unfoldable pub fields_fit : Fields → Bool
fields_fit f = settings_fit f.flags f.low f.high && entries_fit_in (kind_numbered f.kind) f.count f.entries

unfoldable pub legend_of : Fields → Legend
legend_of f = legend_from (kind_numbered f.kind) f.count f.entries (settings_in f.nodata f.flags f.low f.high)

unfoldable pub legend_in : (card : List ℕ) → Legend
legend_in card = legend_of (fields_in card)
