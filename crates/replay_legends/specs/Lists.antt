-- The lists of a row (crates/run_replay/README.md). Definitions only.
use Rattle.std.specs.Prelude.{List, ℕ, ◌+◌, ◌*◌, ℤ, get_or, take}
use Rattle.floats.specs.RampIndex.{nought}
use Rattle.lists.specs.Padded.{padded}
use Rattle.lists.specs.Tabulate.{tabulate}
use Rattle.words.specs.Values.{float_of, whole_of, at_most}
use Rattle.replay_rows.specs.Parts.{values_at, words_at}
use Rattle.banded_columns.specs.declared.LegendBand.{LegendBand}
use Rattle.banded_lists.specs.declared.ValueRange.{ValueRange}
use Rattle.banded_lists.specs.declared.ValueRanges.{ValueRanges}

-- the colours and the keys that are counted
abbrev pub list_of : (row : List ℕ) → List ℕ
list_of row = take (at_most (get_or row 2 0) 16) (words_at 16 16 row)

abbrev pub row_keys : (row : List ℕ) → List ℤ
row_keys row = take (at_most (get_or row 10 0) 16) (values_at whole_of 32 16 row)

-- starts and ends by turns
abbrev pub row_range : (row : List ℕ) → ℕ → ValueRange
row_range row i = record { start = float_of (get_or row (32 + 2 * i) 0); end = float_of (get_or row (33 + 2 * i) 0) }

unfoldable pub row_ranges : (row : List ℕ) → ValueRanges
row_ranges row = record { ranges = padded (record { start = nought; end = nought }) 64 (tabulate 16 (row_range row)); count = at_most (get_or row 10 0) 16 }

-- with the list's colours
abbrev pub row_band : (row : List ℕ) → ℕ → LegendBand
row_band row i = record { start = float_of (get_or row (32 + 2 * i) 0); end = float_of (get_or row (33 + 2 * i) 0); color = get_or row (16 + i) 0 }
