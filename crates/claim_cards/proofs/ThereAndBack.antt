-- A card that the writer's contract promises is read, by the reader's, as what it was written of. Assumes nothing.
use Rattle.std.specs.Prelude.{Result, Ok}
use Rattle.refusal.specs.declared.Refusal.{Refusal}
use Rattle.refusal.proofs.Outcomes.{made_done, made_when, when_done}
use mathlib.Core.Path.{◌≡◌, sym, ap, subst, ◌∙◌}
use mathlib.Core.List.{List, []}
use Prim.Native.Nat.{ℕ}
use lib.ListN.{length, take, drop}
use lib.Seq.{take-append_seam}
use Rattle.legend.specs.declared.Legend.{Legend}
use Rattle.card_bytes.specs.Numbers.{overwritten}
use Rattle.card_bytes.proofs.Overwriting.{overwritten_front}
use Rattle.card_layout.specs.Fields.{title_in}
use Rattle.card_layout.specs.Cards.{card_of, legend_in}
use Rattle.card_layout.specs.Refusals.{write_refusal}
use Rattle.card_write.specs.Writing.{CardWriting}
use Rattle.card_read.specs.Reading.{legend_of_card, title_of_card}
use Rattle.claim_cards.specs.Held.{Held}
use Rattle.claim_cards.specs.ThereAndBack.{ThereAndBack, BackFromBuffer}
use Rattle.claim_cards.proofs.Written.{unrefused, read_done, title_read, given_back}

-- the first bytes are the card, and the writer refused nothing
front : (title : List ℕ) (l : Legend) (buffer : List ℕ) (r : Result ℕ Refusal) (buffer' : List ℕ) → CardWriting title l buffer r buffer' → (n : ℕ)
    → r ≡ Ok n → (write_refusal title l buffer ≡ Ok tt) × (take n buffer' ≡ card_of title l)
front title l buffer r buffer' h n is =
    let card = card_of title l in
    let m = made_done (write_refusal title l buffer) (length card) (sym h.answered ∙ is) in
    let output : buffer' ≡ overwritten 0 card buffer = h.output ∙ when_done (overwritten 0 card buffer) buffer m.0 in (
      m.0,
      ap (λ (k : ℕ). take k buffer') (sym m.1)
          ∙ ap (take (length card)) (output ∙ overwritten_front card buffer) ∙ take-append_seam card (drop (length card) buffer),
    )

module _ (title : List ℕ) (l : Legend) (buffer : List ℕ) (held : Held l) (done : write_refusal title l buffer ≡ Ok tt) where
  of_card : ThereAndBack title l (card_of title l)
  unfolding legend_of_card title_of_card
  of_card =
      let u = unrefused title l buffer done in
      let card = card_of title l in
      let a = read_done title l held u in
      record {
        back = legend_in card;
        accepted = made_when (legend_in card) a;
        legend = given_back title l held u;
        title_back = when_done (title_in card) [] a ∙ title_read title l held u;
      }

pub back_from_buffer : BackFromBuffer
back_from_buffer title l buffer r buffer' held h n is =
    let w = front title l buffer r buffer' h n is in
    subst (ThereAndBack title l) (sym w.1) (of_card title l buffer held w.0)
