-- There and back, as the contracts of the calls promise it: a card that is written reads back as what it was written of. Definitions only.
use Rattle.std.specs.Prelude.{Result, Ok, ◌≡◌, List, ℕ, take}
use Rattle.refusal.specs.declared.Refusal.{Refusal}
use Rattle.legend.specs.declared.Legend.{Legend}
use Rattle.card_write.specs.Writing.{CardWriting}
use Rattle.card_read.specs.Reading.{legend_of_card, title_of_card}
use Rattle.claim_cards.specs.Held.{Held}
use Rattle.claim_cards.specs.Exact.{GivenBack}

-- of the bytes that a writing has put in front: a legend is read from them
pub record ThereAndBack (title : List ℕ) (l : Legend) (card : List ℕ) : Type 0 where
  pub back : Legend
  pub accepted : legend_of_card card ≡ Ok back
  pub legend : GivenBack l back
  pub title_back : title_of_card card ≡ title

abbrev pub BackFromBuffer : Type 0
BackFromBuffer =
    (title : List ℕ) (l : Legend) (buffer : List ℕ) (r : Result ℕ Refusal) (buffer' : List ℕ)
    → Held l → CardWriting title l buffer r buffer' → (n : ℕ) → r ≡ Ok n → ThereAndBack title l (take n buffer')
