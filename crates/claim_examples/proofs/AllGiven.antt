-- The claim over the table of first refusals: antt works each row out. Assumes nothing.
use lib.Dec.{T}
use lib.Ieee.{lt, le, eq, of_int, to_bits, of_bits, nan_bits}
use Rattle.lists.specs.Tabulate.{tabulate}
use Rattle.color.specs.Hex.{hex_color, hex_form, hex_digit, two_digits, hex_pair, pair_at, alpha_of, of_pairs}
use Rattle.colormap.specs.Made.{list_refusal}
use Rattle.linear.specs.Made as linear
use Rattle.banded_lists.specs.EqualBands.{equal_refusal}
use Rattle.banded_lists.specs.ManualRanges.{first_empty, manual_refusal}
use Rattle.banded.specs.Record.{banded_of, made_banded, banded_refusal}
use Rattle.banded.specs.EqualBands.{with_equal_bands}
use Rattle.banded.specs.ManualRanges.{with_manual_ranges}
use Rattle.categoric_lists.specs.Range.{too_wide, range_keys}
use Rattle.categoric_lists.specs.Keys.{outside_from}
use Rattle.catgegoric.specs.Made.{record_unless, many_refusal, values_refusal, wide_refusal, value_range_refusal, categoric_refusal}
use Rattle.painting.specs.Paintings.{plain_refusal, lane_refusal}
use Rattle.legend.specs.Record.{stored_refusal}
use Rattle.legend_range.specs.ValueRanges as ranges
use Rattle.words.specs.Values.{float_of, bits_of}
use Rattle.card_bytes.specs.Numbers.{bytes_of, number_in, number_at}
use Rattle.card_bytes.specs.Entries.{entries_of, entries_in}
use Rattle.card_layout.specs.Fields.{bytes_of_fields, fields_in}
use Rattle.card_layout.specs.Settings.{flags_of, settings_in, settings_fit}
use Rattle.card_layout.specs.Entries as entries
use Rattle.card_layout.specs.Stored.{in_order, keys_in_order}
use Rattle.card_layout.specs.Cards.{fields_of, card_of, fields_fit, legend_of, legend_in}
use Rattle.card_layout.specs.Refusals.{bounds_refusal, known, well_formed, read_refusal, too_long, write_refusal}
use Rattle.categoric_lists.specs.Ascending.{ascends}
use Rattle.claim_examples.specs.FirstRefusals.{all_given, rows}

pub all-given : T (all_given rows)
unfolding all_given rows tabulate hex_color hex_form hex_digit two_digits hex_pair pair_at alpha_of of_pairs list_refusal linear.range_refusal
    linear.linear_unless banded_of made_banded banded_refusal equal_refusal with_equal_bands first_empty manual_refusal with_manual_ranges too_wide range_keys
    outside_from record_unless many_refusal values_refusal wide_refusal value_range_refusal categoric_refusal plain_refusal lane_refusal stored_refusal
    ranges.total_range_refusal lt le eq of_int float_of bits_of to_bits of_bits nan_bits bytes_of number_in number_at entries_of entries_in bytes_of_fields
    fields_in flags_of settings_in settings_fit entries.linear_bytes entries.linear_in entries.canonical entries.bounds_canonical in_order keys_in_order
    ascends fields_of card_of fields_fit legend_of legend_in bounds_refusal known well_formed read_refusal too_long write_refusal
all-given = tt
