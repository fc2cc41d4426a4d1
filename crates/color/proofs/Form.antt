-- Hex text, by what the tests of the code show: its form, its length, and what it is read as. Assumes nothing.
use Rattle.std.specs.Prelude.{Option, Some, Result, Err}
use Rattle.refusal.specs.declared.Refusal.{Refusal}
use Rattle.color.specs.declared.Color.{Color}
use Prim.Native.Nat.{ℕ, ◌≤◌}
use mathlib.Core.Path.{◌≡◌, refl, sym, ◌∙◌}
use mathlib.Core.Bool.{Bool, true, false, not, ◌||◌, and-true, and-false}
use mathlib.Core.List.{List, [], ◌∷◌}
use mathlib.Core.Logic.{◌⊎◌, inl, inr, ⊎_elim}
use native.Mathlib.Omega.{arith}
use borrow.Author.Tests.{eqb-true, eq-eqb, ne_eqb, not-false}
use types.Run.{OneOf}
use lib.Dec.{eqb}
use lib.ListN.{length, get_or}
use Rattle.refusal.specs.declared.Refusal.TheVariants.{EmptyText, NotHexColor}
use Rattle.color.specs.Hex.{hex_form, pair_at, alpha_of, of_pairs, hex_color}
use Rattle.color.proofs.Digits.{both}

either : (s t : Bool) → s || t ≡ true → (s ≡ true) ⊎ (t ≡ true)
either true t e = inl refl
either false t e = inr e

module _ (text : List ℕ) where
  -- `OneOf` is what the code's `match` tells
  pub right_length : OneOf (7 ∷ 9 ∷ []) (length text) → hex_form text ≡ eqb (get_or text 0 0) 35
  unfolding hex_form
  right_length (inl e) = rw (e, and-true)
  right_length (inr e) = rw (e, and-true)

  pub wrong_length : (OneOf (7 ∷ 9 ∷ []) (length text) → ⊥) → hex_form text ≡ false
  unfolding hex_form
  wrong_length h =
      rw (ne_eqb (length text) 7 (λ e. h (inl e)), ne_eqb (length text) 9 (λ e. h (inr e)), and-false)

  lengths : hex_form text ≡ true → (length text ≡ 7) ⊎ (length text ≡ 9)
  unfolding hex_form
  lengths e =
      ⊎_elim (λ t. inl (eqb-true (length text) 7 t)) (λ t. inr (eqb-true (length text) 9 t))
      (either (eqb (length text) 7) (eqb (length text) 9)
      (both (eqb (get_or text 0 0) 35) (eqb (length text) 7 || eqb (length text) 9) e).1)

  -- three pairs are there, and a fourth where the length is not 7
  pub three_pairs : hex_form text ≡ true → 7 ≤ length text
  three_pairs e = ⊎_elim (λ w. omega arith) (λ w. omega arith) (lengths e)

  pub four_pairs : hex_form text ≡ true → (length text ≡ 7 → ⊥) → 9 ≤ length text
  four_pairs e h = ⊎_elim (λ w. absurd (h w)) (λ w. omega arith) (lengths e)

  -- what the code knows past its test
  pub formed : {b : Bool} → b ≡ hex_form text → not b ≡ false → hex_form text ≡ true
  formed {b} e h = sym e ∙ not-false b h

  pub short_alpha : length text ≡ 7 → alpha_of text ≡ Some 255
  unfolding alpha_of
  short_alpha e = rw (eq-eqb (length text) 7 e)

  pub long_alpha : (length text ≡ 7 → ⊥) → alpha_of text ≡ pair_at text 3
  unfolding alpha_of
  long_alpha h = rw (ne_eqb (length text) 7 h)

  pub of_empty : length text ≡ 0 → hex_color text ≡ Err EmptyText
  unfolding hex_color
  of_empty e = rw (eq-eqb (length text) 0 e)

  pub of_formless : (length text ≡ 0 → ⊥) → hex_form text ≡ false → hex_color text ≡ Err NotHexColor
  unfolding hex_color
  of_formless h e = rw (ne_eqb (length text) 0 h, e)

  pub of-formed :
      hex_form text ≡ true →
      hex_color text ≡ of_pairs (pair_at text 0) (pair_at text 1) (pair_at text 2) (alpha_of text)
  unfolding hex_color
  of-formed e =
      let some : 7 ≤ length text = three_pairs e
      in rw (ne_eqb (length text) 0 (λ z. omega arith), e)

  -- the pairs as the code read them
  pub of_read : {r g b a : (Option ℕ)} {c : (Result Color Refusal)} → hex_form text ≡ true → c ≡ of_pairs r g b a → r ≡ pair_at text 0 → g ≡ pair_at text 1 → b ≡ pair_at text 2 → a
      ≡ alpha_of text → c ≡ hex_color text
  of_read f e er eg eb ea = e ∙ (λ j. of_pairs (er j) (eg j) (eb j) (ea j)) ∙ sym (of-formed f)
