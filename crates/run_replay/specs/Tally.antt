-- A tally of rows by their kind. Definitions only.
use Rattle.std.specs.Prelude.{ℕ, zero, suc, ◌+◌, ◌%◌, ◌^◌, Bool, false, cond, Option, Some, None, List, ◌==◌, slice_index, slice_set}
use Rattle.replay_rows.specs.declared.kind.RowKind.{RowKind}
use Rattle.replay_rows.specs.Kinds.{kind_from, number_of}
use Rattle.replay_rows.specs.Parts.{first_difference}
use Rattle.replay_worked.specs.Worked.{worked_row}

-- one more at a place; a sum that does not fit wraps
unfoldable pub tallied : (place : ℕ) → List ℕ → List ℕ
tallied place numbers = slice_set numbers place ((slice_index numbers place + 1) % 2 ^ 64)

-- the place of a kind: its number, and 12 for malformed rows, which have none
abbrev pub place_of : Option RowKind → ℕ
place_of (Some kind) = number_of kind
place_of None = 12

-- the place of a row by its first word
abbrev pub row_kind : ℕ → ℕ
row_kind word = place_of (kind_from word)

-- whether a row is of a kind and differs nowhere
abbrev pub is_same : (kind : Option RowKind) (at : ℕ) → Bool
is_same (Some kind) at = at == 1680
is_same None at = false

-- the two tallies after a row: one more of its kind, and one more that differs unless it is what we make of it
unfoldable pub differing : (row differ : List ℕ) → List ℕ
differing row differ =
    cond (is_same (kind_from (slice_index row 0)) (first_difference row (worked_row row))) differ (tallied (row_kind (slice_index row 0)) differ)

unfoldable pub sum_to : (n : ℕ) → List ℕ → ℕ
sum_to zero numbers = 0
sum_to (suc n) numbers = (sum_to n numbers + slice_index numbers n) % 2 ^ 64
