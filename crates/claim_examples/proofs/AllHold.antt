-- The claim over the table of examples: antt works each row out. Assumes nothing.
use lib.Dec.{T}
use lib.Ieee.{add, sub, neg, mul, div, lt, le, eq, is_nan, of_int, of_bits}
use Rattle.lists.specs.Tabulate.{tabulate}
use Rattle.lists.specs.Padded.{padded}
use Rattle.color.specs.Hex.{hex_color, hex_form, hex_digit, two_digits, hex_pair, pair_at, alpha_of, of_pairs}
use Rattle.cast.specs.Truncated.{truncated}
use Rattle.floats.specs.RampIndex.{plain_index, lane_index}
use Rattle.interpolate.specs.Fraction.{fraction, plain_fraction}
use Rattle.lookup.specs.Entries.{plain_entry, lane_entry}
use Rattle.colormap.specs.Positions.{step, position, ramp_colors}
use Rattle.colormapper.specs.Unmappable.{unmappable}
use Rattle.linear_rule.specs.Rule as linear
use Rattle.banded_columns.specs.Band.{last_of}
use Rattle.banded_rule.specs.PlainRule.{first_band, edges, plain_rule}
use Rattle.banded_lanes.specs.Edges.{edged}
use Rattle.banded_lanes.specs.LaneRule.{swept, chunk_colors, lane_colors}
use Rattle.banded_lists.specs.EqualBands.{band_step, band_start, equal_bands, equal_refusal}
use Rattle.banded.specs.Record.{banded_of, made_banded}
use Rattle.banded.specs.EqualBands.{with_equal_bands}
use Rattle.categoric_table.specs.Rule as words
use Rattle.categoric_keys.specs.Rule as rule
use Rattle.categoric_build.specs.Categories.{inserted, inserted_up_to}
use Rattle.categoric_build.specs.Table.{foremost, has_table, table_size, written, table}
use Rattle.categoric_lists.specs.Keys.{outside_from}
use Rattle.catgegoric.specs.Made.{record_of, record_unless, many_refusal, values_refusal}
use Rattle.claim_examples.specs.Examples.{gray, G, category_of, example_word, examples, all_examples_hold}

pub all_hold : T (all_examples_hold examples)
unfolding all_examples_hold examples example_word gray G category_of tabulate padded hex_color hex_form hex_digit two_digits hex_pair pair_at alpha_of
    of_pairs truncated plain_index lane_index fraction plain_fraction plain_entry lane_entry step position ramp_colors unmappable linear.plain_rule
    linear.lane_rule linear.plain_color linear.lane_color last_of first_band edges plain_rule edged swept chunk_colors lane_colors banded_of made_banded
    band_step band_start equal_bands equal_refusal with_equal_bands words.table_rule rule.first_key rule.key_rule rule.plain_rule rule.plain_color
    words.table_color rule.key_color inserted inserted_up_to foremost has_table table_size written table outside_from record_of record_unless many_refusal
    values_refusal add sub neg mul div lt le eq is_nan of_int of_bits
all_hold = tt
