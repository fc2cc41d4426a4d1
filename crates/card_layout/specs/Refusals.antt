-- What the reader and the writer of cards refuse, in their order (docs/RULES.md, "Where each call says no"). Definitions only.
use Rattle.std.specs.Prelude.{ℕ, Bool, not, ◌&&◌, ◌||◌, List, ltb, eqb, length}
use Rattle.refusal.specs.Outcome.{Answer, Done, refuse_if, first_of}
use Rattle.refusal.specs.declared.Refusal.TheVariants.{CountAboveCapacity, CardUnknown, CardMalformed, CardTooLong}
use Rattle.linear.specs.Made.{range_refusal}
use Rattle.legend.specs.declared.LegendKind.{LegendKind}
use Rattle.legend.specs.declared.LegendKind.TheVariants as kind
use Rattle.legend.specs.declared.Legend.{Legend}
use Rattle.legend.specs.Record.{stored_refusal}
use Rattle.card_bytes.specs.Numbers.{number_at}
use Rattle.card_layout.specs.Fields.{mark, version, after_title, fields_in}
use Rattle.card_layout.specs.Stored.{in_order}
use Rattle.card_layout.specs.Cards.{card_of, fields_fit, legend_in}

-- 7 a linear start above its end
abbrev pub range_refusal_in : LegendKind → Legend → Answer
range_refusal_in kind.Linear l = range_refusal l.linear.start l.linear.end
range_refusal_in kind.Banded l = Done
range_refusal_in kind.CategoricNumeric l = Done

unfoldable pub bounds_refusal : Legend → Answer
bounds_refusal l = range_refusal_in l.kind l

-- ---- the reader: 18 mark, version or kind wrong or cut off; 19 the rest breaks the layout; 7
unfoldable pub known : (card : List ℕ) → Bool
known card = ltb 5 (length card) && eqb (number_at 0 3 card) mark && eqb (number_at 3 2 card) version && ltb (number_at 5 1 card) 3

-- the fields up to the count are there, and they and the entries keep to the layout
unfoldable pub well_formed : (card : List ℕ) → Bool
well_formed card = ltb 14 (length (after_title card)) && fields_fit (fields_in card)

unfoldable pub read_refusal : (card : List ℕ) → Answer
read_refusal card = refuse_if (not (known card)) CardUnknown (refuse_if (not (well_formed card)) CardMalformed (bounds_refusal (legend_in card)))

-- ---- the writer: 16 a stored count, keys out of order, another table; 7; 20 the title above 255 bytes, or the buffer too short
unfoldable pub too_long : (title : List ℕ) → Legend → (buffer : List ℕ) → Bool
too_long title l buffer = ltb 255 (length title) || ltb (length buffer) (length (card_of title l))

unfoldable pub write_refusal : (title : List ℕ) → Legend → (buffer : List ℕ) → Answer
write_refusal title l buffer =
    first_of (stored_refusal l)
    (refuse_if (not (in_order l)) CountAboveCapacity
    (first_of (bounds_refusal l)
    (refuse_if (too_long title l buffer) CardTooLong Done)))
