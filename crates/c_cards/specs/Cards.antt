-- What the calls for cards answer to C. Definitions only.
use Rattle.refusal.specs.Outcome.{Answer, if_done, first_of}
use Rattle.std.specs.Prelude.{◌≡◌, cond, List, ℕ, eqb, length}
use Rattle.card_bytes.specs.Numbers.{overwritten}
use Rattle.card_layout.specs.Cards.{card_of}
use Rattle.card_layout.specs.Refusals.{write_refusal}
use Rattle.c_types.specs.Answers.{answer_to_c}
use Rattle.c_types.specs.Refusals.{legend_refusal}
use Rattle.c_records.specs.declared.record.LegendRecord.{LegendRecord}
use Rattle.c_records.specs.Records.{legend_from_c}
use Rattle.c_cards.specs.declared.LegendWrittenCard.{LegendWrittenCard}
use Rattle.c_cards.specs.declared.LegendTitlePart.{LegendTitlePart}

-- ---- the writer: flags and kinds are refused before the rest
unfoldable pub record_refusal : (title : List ℕ) → LegendRecord → (buffer : List ℕ) → Answer
record_refusal title l buffer = first_of (legend_refusal l.settings l.kind) (write_refusal title (legend_from_c l) buffer)

-- the card's length, 0 beside a refusal; the card in the buffer's first bytes, the others unchanged, and beside a refusal all
pub record WritingOutcome (title : List ℕ) (l : LegendRecord) (buffer : List ℕ) (r : LegendWrittenCard) (buffer' : List ℕ) : Type 0 where
  pub answered : r.answer ≡ answer_to_c (record_refusal title l buffer)
  pub long : r.length ≡ if_done (record_refusal title l buffer) (length (card_of title (legend_from_c l))) 0
  pub output : buffer' ≡ if_done (record_refusal title l buffer) (overwritten 0 (card_of title (legend_from_c l)) buffer) buffer

-- ---- the title's place on its card: after the length byte; 0 and 0 where it is empty
unfoldable pub title_part : (title : List ℕ) → LegendTitlePart
title_part title = record { offset = cond (eqb (length title) 0) 0 7; length = length title }
