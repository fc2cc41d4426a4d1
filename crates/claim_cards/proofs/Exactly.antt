-- The reader accepts exactly what the writer writes, and gives it back. Assumes nothing.
use Rattle.std.specs.Prelude.{Ok}
use mathlib.Core.Path.{◌≡◌, subst}
use mathlib.Core.List.{List}
use Prim.Native.Nat.{ℕ}
use Rattle.card_bytes.specs.Numbers.{Bytes}
use Rattle.card_layout.specs.Fields.{title_in}
use Rattle.card_layout.specs.Cards.{legend_in}
use Rattle.card_layout.specs.Refusals.{read_refusal}
use Rattle.claim_cards.specs.Exact.{GivenBack, Exact}
use Rattle.claim_cards.proofs.Written.{unrefused, read_done, title_read, given_back}
use Rattle.claim_cards.proofs.Accepted.{held, title_bytes, card_again, write_done}

pub cards_exact : (card : List ℕ) → Bytes card → Exact card
cards_exact card bytes =
    record {
      accepted = λ done. (title_bytes card bytes done, held card bytes done, write_done card bytes done, card_again card bytes done);
      written = λ title l buffer h done is.
          let u = unrefused title l buffer done in
          subst (λ (c : List ℕ). (read_refusal c ≡ Ok tt) × (title_in c ≡ title) × GivenBack l (legend_in c)) is
          (read_done title l h u, title_read title l h u, given_back title l h u);
    }
