-- The words of a refusal and of a range of values. Definitions only.
use Rattle.std.specs.Prelude.{Option, Some, None, Result, Ok, Err, List, ℕ, ◌+◌, ◌%◌, set}
use Rattle.refusal.specs.Outcome.{Answer}
use Rattle.refusal.specs.declared.Refusal.{Refusal}
use Rattle.banded_lists.specs.declared.ValueRange.{ValueRange}
use Rattle.refusal.specs.Table.{number_of, answer_number, answer_index}
use Rattle.words.specs.Values.{bits_of}

-- the index and 1, or 0
abbrev pub index_word : Option ℕ → ℕ
index_word (Some i) = i % 4294967295 + 1
index_word None = 0

unfoldable pub with_answer : Answer → List ℕ → List ℕ
with_answer answer row = set (set row 128 (answer_number answer)) 129 (index_word (answer_index answer))

abbrev pub with_range : Result ValueRange Refusal → List ℕ → List ℕ
with_range (Ok values) row = set (set row 130 (bits_of values.start)) 131 (bits_of values.end)
with_range (Err why) row = set row 130 (number_of why)
