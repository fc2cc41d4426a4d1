-- `title` meets its contract. Assumes nothing.
use native.Mathlib.Omega.{arith}
use Prim.Native.Nat.{ℕ, ◌+◌, ◌-◌}
use mathlib.Core.Path.{◌≡◌, sym, ap, ◌∙◌}
use mathlib.Core.List.{[]}
use lib.ListN.{take, drop}
use Rattle.refusal.proofs.Outcomes.{when_done, when_refused}
use Rattle.card_layout.specs.Fields.{title_length, title_in}
use Rattle.card_read.specs.Reading.{title_of_card}
use Rattle.card_read.proofs.Told.{not_refused, title_told}
use Rattle.card_read.proofs.title.Goals as goal

pub returns-in-Err : goal.returns-in-Err
unfolding title_of_card
returns-in-Err c =
    sym (when_refused (title_in c.args.card.now) [] (sym c.read_refusal.ensures ∙ c.in-Err.is))

-- where the card is not refused, its title is there
pub u8_at-requires : goal.u8_at-requires
u8_at-requires c =
    let card = c.args.card.now in
    omega (arith, title_told card (not_refused card (sym c.read_refusal.ensures ∙ c.in-Ok.is)))

pub slice_bounds-result-end-in-Ok : goal.slice_bounds-result-end-in-Ok
slice_bounds-result-end-in-Ok c =
    let card = c.args.card.now in
    omega (arith, title_told card (not_refused card (sym c.read_refusal.ensures ∙ c.in-Ok.is)), c.u8_at.ensures)

pub returns-in-Ok : goal.returns-in-Ok
unfolding title_of_card
returns-in-Ok c =
    let card = c.args.card.now in
    let n : 7 + c.u8_at.result - 7 ≡ title_length card = omega (arith, c.u8_at.ensures) in
    ap (λ (k : ℕ). take k (drop 7 card)) n ∙ sym (when_done (title_in card) [] (sym c.read_refusal.ensures ∙ c.in-Ok.is))
