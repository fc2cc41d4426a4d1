-- What the writer of cards answers, and what the buffer holds afterwards (docs/RULES.md, "Cards"). Definitions only.
use Rattle.std.specs.Prelude.{◌≡◌, ℕ, List, length, Result}
use Rattle.refusal.specs.declared.Refusal.{Refusal}
use Rattle.refusal.specs.Outcome.{if_done, made_unless}
use Rattle.legend.specs.declared.Legend.{Legend}
use Rattle.card_bytes.specs.Numbers.{overwritten}
use Rattle.card_layout.specs.Cards.{card_of}
use Rattle.card_layout.specs.Refusals.{write_refusal}

-- the card's length; the buffer has the card in its first bytes and is unchanged beyond it, and beside a refusal throughout
pub record CardWriting (title : List ℕ) (l : Legend) (buffer : List ℕ) (r : Result ℕ Refusal) (buffer' : List ℕ) : Type 0 where
  pub answered : r ≡ made_unless (write_refusal title l buffer) (length (card_of title l))
  pub output : buffer' ≡ if_done (write_refusal title l buffer) (overwritten 0 (card_of title l) buffer) buffer
