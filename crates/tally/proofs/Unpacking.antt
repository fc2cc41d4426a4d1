-- The loop that adds a number's digits to totals: its invariant, the first turn, each turn and the end. Assumes nothing.
use Prim.Native.Nat.{ℕ, ◌+◌, ◌/◌, ◌%◌, ◌≤◌, ◌<◌}
use mathlib.Core.Path.{◌≡◌, refl, sym, ap, ◌∙◌}
use mathlib.Core.List.{List, [], ◌∷◌, ◌++◌, append_assoc, append-nil}
use native.Mathlib.Nat.{add-zero}
use native.Mathlib.Numerals.{add-one}
use native.Mathlib.Omega.{arith}
use lib.ListN.{length, get_or, set, take, drop, length-set, drop_of_length-le}
use lib.Seq.{drop-cons, drop-drop, drop-set-lt, get_or-drop, take_all, take-suc-set}
use Rattle.tally.specs.forms.Packed.{digits_added}

-- the totals from s on are as they were, and take the digits of the rest
pub record Unpacking (totals : List ℕ) (number s rest : ℕ) (now : List ℕ) : Type 0 where
  pub upto : s ≤ length totals
  pub long : length now ≡ length totals
  pub kept : drop s now ≡ drop s totals
  pub is : take s now ++ digits_added (drop s totals) rest ≡ digits_added totals number

module _ (totals : List ℕ) (number : ℕ) where
  pub unpacking_start : Unpacking totals number 0 number totals
  unpacking_start = record { upto = omega arith; long = refl; kept = refl; is = refl }

  -- what is left, the total at s first
  digits_left : (s rest : ℕ) → s < length totals
      → digits_added (drop s totals) rest ≡ (get_or totals s 0 + rest % 512) ∷ digits_added (drop (s + 1) totals) (rest / 512)
  unfolding digits_added
  digits_left s rest h = rw (add-one, drop-cons totals s 0)

  module _ {s rest : ℕ} {now : List ℕ} (p : Unpacking totals number s rest now) where
    pub unpacking_kept : get_or now s 0 ≡ get_or totals s 0
    unpacking_kept =
        let at : (l : List ℕ) → get_or (drop s l) 0 0 ≡ get_or l s 0 = λ l. get_or-drop s l 0 0 ∙ ap (λ (j : ℕ). get_or l j 0) (add-zero s) in
        sym (at now) ∙ ap (λ (l : List ℕ). get_or l 0 0) p.kept ∙ at totals

    pub unpacking_turn : s < length totals → Unpacking totals number (s + 1) (rest / 512) (set now s (get_or now s 0 + rest % 512))
    unpacking_turn h =
        let v = get_or now s 0 + rest % 512 in
        let left = digits_added (drop (s + 1) totals) (rest / 512) in
        record {
          upto = omega arith;
          long = length-set now s v ∙ p.long;
          kept = drop-set-lt (s + 1) now s v (omega arith) ∙ sym (drop-drop 1 s now) ∙ ap (drop 1) p.kept ∙ drop-drop 1 s totals;
          is =
              ap (λ (j : ℕ). take j (set now s v) ++ left) (add-one s) ∙ ap (λ (l : List ℕ). l ++ left) (take-suc-set now s v (omega (arith, p.long)))
              ∙ append_assoc (take s now) (v ∷ []) left ∙ ap (λ (n : ℕ). take s now ++ (n + rest % 512) ∷ left) unpacking_kept
              ∙ ap (λ (l : List ℕ). take s now ++ l) (sym (digits_left s rest h)) ∙ p.is;
        }

    pub unpacking_end : length totals ≤ s → now ≡ digits_added totals number
    unfolding digits_added
    unpacking_end h =
        sym (append-nil now) ∙ ap (λ (l : List ℕ). l ++ []) (sym (take_all s now (omega (arith, p.long))))
        ∙ ap (λ (l : List ℕ). take s now ++ digits_added l rest) (sym (drop_of_length-le totals h)) ∙ p.is
