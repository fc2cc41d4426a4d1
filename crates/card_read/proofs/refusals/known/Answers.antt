-- `known` meets its contract. Assumes nothing.
use borrow.Author.Tests.{lt-ltb, le-ltb}
use native.Mathlib.Omega.{arith}
use mathlib.Core.Path.{◌≡◌, ◌∙◌}
use mathlib.Core.List.{List, [], ◌∷◌}
use Prim.Native.Nat.{ℕ, ◌≤◌}
use lib.ListN.{length, get_or}
use Rattle.std.specs.Int.{w32, from_le_bytes}
use Rattle.card_bytes.specs.Numbers.{number_in, number_at}
use Rattle.card_layout.specs.Refusals.{known}
use Rattle.card_read.proofs.refusals.known.Goals as goal

-- the number of the first three bytes
first_three : (card : List ℕ) → 3 ≤ length card → from_le_bytes w32 (get_or card 0 0 ∷ get_or card 1 0 ∷ get_or card 2 0 ∷ 0 ∷ []) ≡ number_at 0 3 card
unfolding number_at number_in
first_three [] h = absurd (omega arith)
first_three (a ∷ []) h = absurd (omega arith)
first_three (a ∷ b ∷ []) h = absurd (omega arith)
first_three (a ∷ b ∷ c ∷ rest) h = omega arith

pub returns-then-card-lt6 : goal.returns-then-card-lt6
unfolding known
returns-then-card-lt6 c = simp (le-ltb 5 (length c.args.card.now) (omega (arith, c.if-card-lt6.true)))

pub returns : goal.returns
unfolding known
returns c =
    let card = c.args.card.now in
    let mark = c.from_le_bytes-mark.ensures ∙ first_three card (omega (arith, c.if-card-lt6.false)) in
    simp (lt-ltb 5 (length card) (omega (arith, c.if-card-lt6.false)), mark, ← c.u16_at.ensures, ← c.u8_at.ensures)
