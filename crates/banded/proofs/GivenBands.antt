-- The bands of a list of at most 64, one after the other, are the list's record. Assumes nothing.
use Rattle.std.specs.Prelude.{Ok, Err}
use mathlib.Core.Path.{◌≡◌, refl, sym, ◌∙◌, ap, ap₂}
use mathlib.Core.Bool.{Bool, cond}
use mathlib.Core.List.{List, [], ◌∷◌, ◌++◌, append_assoc, append-nil}
use Prim.Native.Nat.{◌+◌, ◌≤◌, ◌<◌}
use native.Mathlib.Omega.{arith}
use lib.Dec.{ltb}
use lib.ListN.{length, set, length-append}
use borrow.Author.Tests.{lt-ltb, ltb-false}
use Rattle.lists.specs.Padded.{padded}
use Rattle.lists.proofs.Padding.{padded_more}
use Rattle.refusal.specs.declared.Refusal.TheVariants.{TooManyBands}
use Rattle.refusal.specs.declared.Refusal.{Refusal}
use Rattle.refusal.proofs.Outcomes.{passed, not_made, made_when}
use Rattle.banded_columns.specs.declared.LegendBand.{LegendBand}
use Rattle.banded_lists.specs.Padded.{blank_band}
use Rattle.banded.specs.declared.Banded.{Banded}
use Rattle.banded.specs.Record.{banded_of, made_banded}
use Rattle.banded.specs.Given.{given_refusal, with_bands_given}
use Rattle.banded.specs.forms.OneByOne.{with_band, folded}

one_more : (xs : List LegendBand) (b : LegendBand) → length xs < 64 → with_band (banded_of xs) b ≡ banded_of (xs ++ (b ∷ []))
unfolding with_band banded_of
one_more xs b l =
    ap (λ (t : Bool). cond t (record { bands = set (padded blank_band 64 xs) (length xs) b; count = length xs + 1 }) (banded_of xs)) (lt-ltb _ _ l)
    ∙ ap₂ (λ x y. record { bands = x; count = y }) (padded_more blank_band 64 xs b (length xs) refl l) (sym (length-append xs (b ∷ [])))

all_more : (xs ys : List LegendBand) → length xs + length ys ≤ 64 → folded with_band (banded_of xs) ys ≡ banded_of (xs ++ ys)
unfolding folded
all_more xs [] l = ap banded_of (sym (append-nil xs))
all_more xs (b ∷ ys) l =
    ap (λ (x : Banded). folded with_band x ys) (one_more xs b (omega (arith, l))) ∙ all_more (xs ++ (b ∷ [])) ys (omega (arith, l, length-append xs (b ∷ [])))
    ∙ ap banded_of (append_assoc xs (b ∷ []) ys)

module _ (bands : List LegendBand) where
  pub given_refused : {why : Refusal} → given_refusal (length bands) ≡ Err why → with_bands_given bands ≡ Err why
  unfolding with_bands_given made_banded
  given_refused e = not_made (banded_of bands) e

  pub given_made : {made : Banded} → given_refusal (length bands) ≡ Ok tt → made ≡ folded with_band (banded_of []) bands → with_bands_given bands ≡ Ok made
  unfolding given_refusal with_bands_given made_banded
  given_made e h =
      made_when (banded_of bands) e
      ∙ ap Ok (sym (h ∙ all_more [] bands (omega (arith, ltb-false 64 (length bands) (passed (ltb 64 (length bands)) TooManyBands (Ok tt) e).0))))
