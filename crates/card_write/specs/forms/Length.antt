-- How many bytes a card has, counted before it is written. The rule is the length of `card_of`; the law is `card_length_lem` (proofs/Lengths.antt).
-- The writer's refusals by these numbers: the rule is `write_refusal`; the law is `refusal_of_lengths`, in the same file. Definitions only.
use Rattle.std.specs.Prelude.{ℕ, ◌+◌, ◌*◌, not, ◌||◌, ltb}
use Rattle.refusal.specs.Outcome.{Answer, Done, refuse_if, first_of}
use Rattle.refusal.specs.declared.Refusal.TheVariants.{CountAboveCapacity, CardTooLong}
use Rattle.legend.specs.declared.LegendKind.{LegendKind}
use Rattle.legend.specs.declared.LegendKind.TheVariants as kind
use Rattle.legend.specs.declared.Legend.{Legend}
use Rattle.legend.specs.Record.{stored_refusal}
use Rattle.card_layout.specs.Stored.{in_order}
use Rattle.card_layout.specs.Refusals.{bounds_refusal}

abbrev pub entries_length_in : LegendKind → Legend → ℕ
entries_length_in kind.Linear l = 1032
entries_length_in kind.Banded l = 12 * l.banded.count
entries_length_in kind.CategoricNumeric l = 12 * l.categoric.count

unfoldable pub entries_length : Legend → ℕ
entries_length l = entries_length_in l.kind l

-- the fields before the entries have 22 bytes and the title
unfoldable pub card_length : (title : ℕ) → Legend → ℕ
card_length title l = 22 + title + entries_length l

-- the writer's refusals, of the lengths alone
unfoldable pub lengths_refusal : (title : ℕ) → Legend → (capacity : ℕ) → Answer
lengths_refusal title l capacity =
    first_of (stored_refusal l)
    (refuse_if (not (in_order l)) CountAboveCapacity
    (first_of (bounds_refusal l)
    (refuse_if (ltb 255 title || ltb capacity (card_length title l)) CardTooLong Done)))
