-- The part of a card that C is told of is the title. Assumes nothing.
use Rattle.std.specs.Prelude.{Ok, Err}
use Rattle.refusal.specs.Outcome.{Answer, if_done}
use mathlib.Core.Path.{◌≡◌, refl, ap, ◌∙◌}
use mathlib.Core.Bool.{Bool, true, false, cond}
use mathlib.Core.List.{List, [], ◌∷◌}
use Prim.Native.Nat.{ℕ, zero, suc}
use native.Mathlib.Omega.{arith}
use borrow.Author.Tests.{eqb-true}
use lib.Dec.{eqb}
use lib.ListN.{length, take, drop}
use Rattle.card_layout.specs.Fields.{title_length, title_in}
use Rattle.card_layout.specs.Refusals.{read_refusal}
use Rattle.card_read.specs.Reading.{title_of_card}
use Rattle.c_cards.specs.Cards.{title_part}

take_again : (n : ℕ) (xs : List ℕ) → take (length (take n xs)) xs ≡ take n xs
take_again zero xs = refl
take_again (suc n) [] = refl
take_again (suc n) (x ∷ xs) = ap (λ (r : List ℕ). x ∷ r) (take_again n xs)

nothing : (xs : List ℕ) → length xs ≡ 0 → [] ≡ xs
nothing [] e = refl
nothing (x ∷ xs) e = absurd (omega arith)

module _ (card : List ℕ) where
  -- the bytes of a card that a title's place and length name
  abbrev named : (title : List ℕ) → List ℕ
  named title = take (length title) (drop (cond (eqb (length title) 0) 0 7) card)

  of_accepted : (t : Bool) → eqb (length (title_in card)) 0 ≡ t → named (title_in card) ≡ title_in card
  of_accepted true e =
      ap (λ (n : ℕ). take n (drop (cond (eqb (length (title_in card)) 0) 0 7) card)) (eqb-true (length (title_in card)) 0 e)
      ∙ nothing (title_in card) (eqb-true (length (title_in card)) 0 e)
  of_accepted false e =
      ap (λ (b : Bool). take (length (title_in card)) (drop (cond b 0 7) card)) e ∙ take_again (title_length card) (drop 7 card)

  of_answer : (a : Answer) → named (if_done a (title_in card) []) ≡ if_done a (title_in card) []
  of_answer (Ok _) = of_accepted (eqb (length (title_in card)) 0) refl
  of_answer (Err why) = refl

  pub part_is-title : take (title_part (title_of_card card)).length (drop (title_part (title_of_card card)).offset card) ≡ title_of_card card
  unfolding title_part title_of_card
  part_is-title = of_answer (read_refusal card)
