-- A call's answer as C reads it: the number of docs/RULES.md's table, and the index where the table names one. Definitions only.
use Rattle.std.specs.Prelude.{Option, Some, None, ℕ}
use Rattle.refusal.specs.Outcome.{Answer}
use Rattle.refusal.specs.Table.{answer_number, answer_index}
use Rattle.c_types.specs.declared.answer.LegendAnswer.{LegendAnswer}

abbrev pub with_index : ℕ → Option ℕ → LegendAnswer
with_index n (Some i) = record { number = n; indexed = 1; index = i }
with_index n None = record { number = n; indexed = 0; index = 0 }

abbrev pub answer_to_c : Answer → LegendAnswer
answer_to_c a = with_index (answer_number a) (answer_index a)
