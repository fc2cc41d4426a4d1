-- What the reader of cards answers: the legend, and the title as a part of the card (docs/RULES.md, "Cards"). Definitions only.
use Rattle.std.specs.Prelude.{ℕ, List, [], Result}
use Rattle.refusal.specs.declared.Refusal.{Refusal}
use Rattle.refusal.specs.Outcome.{if_done, made_unless}
use Rattle.legend.specs.declared.Legend.{Legend}
use Rattle.card_layout.specs.Fields.{title_in}
use Rattle.card_layout.specs.Cards.{legend_in}
use Rattle.card_layout.specs.Refusals.{read_refusal}

-- the legend on a card
unfoldable pub legend_of_card : (card : List ℕ) → Result Legend Refusal
legend_of_card card = made_unless (read_refusal card) (legend_in card)

-- the bytes after the length byte, none where the card is refused
unfoldable pub title_of_card : (card : List ℕ) → List ℕ
title_of_card card = if_done (read_refusal card) (title_in card) []
