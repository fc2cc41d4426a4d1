-- A fold over the first bands of a list, and over one band more. Assumes nothing.
use Rattle.std.proofs.lemmas.List.{take_all}
use mathlib.Core.Path.{◌≡◌, refl, sym, ap, ◌∙◌}
use Prim.Native.Nat.{ℕ, ◌+◌, ◌<◌, ◌≤◌}
use native.Mathlib.Numerals.{add-one}
use mathlib.Core.List.{List, [], ◌∷◌, ◌++◌}
use lib.ListN.{length, get_or, take}
use lib.Seq.{take-suc}
use Rattle.banded.specs.forms.OneByOne.{folded}
use Rattle.banded_columns.specs.declared.LegendBand.{LegendBand}
use Rattle.banded_columns.proofs.Past.{no_band}

module _ {X : Type 0} (step : X → LegendBand → X) where
  folded_snoc : (x : X) (bs : List LegendBand) (b : LegendBand) → folded step x (bs ++ (b ∷ [])) ≡ step (folded step x bs) b
  unfolding folded
  folded_snoc x [] b = refl
  folded_snoc x (c ∷ bs) b = folded_snoc (step x c) bs b

  pub one_more : (x : X) (ys : List LegendBand) (i : ℕ) → i < length ys → step (folded step x (take i ys)) (get_or ys i no_band) ≡ folded step x (take (i + 1) ys)
  one_more x ys i l = sym (ap (folded step x) (ap (λ (k : ℕ). take k ys) (add-one i) ∙ take-suc ys i no_band l) ∙ folded_snoc x (take i ys) (get_or ys i no_band))

  pub all_in : (x : X) (ys : List LegendBand) (i : ℕ) → length ys ≤ i → folded step x (take i ys) ≡ folded step x ys
  all_in x ys i h = ap (folded step x) (take_all i ys h)
