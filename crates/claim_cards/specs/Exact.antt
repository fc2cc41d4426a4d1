-- CARDS ARE EXACT (docs/PROMISES.md, "Cards"): the reader accepts exactly what the writer writes, and gives it back. Definitions only.
use Rattle.std.specs.Prelude.{◌≡◌, List, ℕ, take}
use Rattle.refusal.specs.Outcome.{Done}
use Rattle.banded.specs.Record.{counted}
use Rattle.legend.specs.declared.LegendKind.{LegendKind}
use Rattle.legend.specs.declared.LegendKind.TheVariants as kind
use Rattle.legend.specs.declared.Legend.{Legend}
use Rattle.card_bytes.specs.Numbers.{Bytes}
use Rattle.card_layout.specs.Fields.{title_in}
use Rattle.card_layout.specs.Stored.{counted_categories, rebuilt}
use Rattle.card_layout.specs.Cards.{card_of, legend_in}
use Rattle.card_layout.specs.Refusals.{read_refusal, write_refusal}
use Rattle.claim_cards.specs.Held.{Held}

-- the same counted entries and, of a categoric legend, table words
abbrev pub SameEntries : LegendKind → (l back : Legend) → Type 0
SameEntries kind.Linear l back = back.linear ≡ l.linear
SameEntries kind.Banded l back = counted back.banded ≡ counted l.banded
SameEntries kind.CategoricNumeric l back =
    (counted_categories back.categoric ≡ counted_categories l.categoric)
    × (take back.categoric.lookup_count back.categoric.lookup ≡ take l.categoric.lookup_count l.categoric.lookup)

-- what a legend is given back as: its entries and settings, in the record that a builder makes of them, unused places too
pub record GivenBack (l back : Legend) : Type 0 where
  pub entries : SameEntries l.kind l back
  pub settings : back.mapping_config ≡ l.mapping_config
  pub built : back ≡ rebuilt l

pub record Exact (card : List ℕ) : Type 0 where
  -- what is accepted is the card of the title and the legend read from it, which the writer does not refuse
  pub accepted : read_refusal card ≡ Done
      → Bytes (title_in card) × Held (legend_in card)
      × (write_refusal (title_in card) (legend_in card) card ≡ Done) × (card_of (title_in card) (legend_in card) ≡ card)
  -- the card of a title and a legend that the writer does not refuse is accepted, and gives both back
  pub written : (title : List ℕ) (l : Legend) (buffer : List ℕ) → Held l → write_refusal title l buffer ≡ Done → card_of title l ≡ card
      → (read_refusal card ≡ Done) × (title_in card ≡ title) × GivenBack l (legend_in card)
