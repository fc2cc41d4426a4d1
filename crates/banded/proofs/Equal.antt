-- The builders of equal bands: what they answer. Assumes nothing.
use Rattle.std.specs.Prelude.{Ok, Err}
use mathlib.Core.Path.{◌≡◌, sym, ap, ◌∙◌}
use mathlib.Core.List.{List}
use Prim.Native.Nat.{ℕ}
use lib.Ieee.{Float}
use lib.ListN.{length}
use Rattle.lists.specs.Padded.{padded}
use Rattle.lists.proofs.Tabulated.{length-tabulate}
use Rattle.refusal.specs.declared.Refusal.{Refusal}
use Rattle.refusal.proofs.Outcomes.{not_made, made_when}
use Rattle.colormap.specs.Positions.{ramp_colors}
use Rattle.banded_columns.specs.declared.LegendBand.{LegendBand}
use Rattle.banded_lists.specs.Padded.{padded_bands}
use Rattle.banded_lists.specs.EqualBands.{equal_bands, equal_refusal}
use Rattle.banded_lists.proofs.Equal.{equal_same, equal_length, equal_padded}
use Rattle.banded.specs.Record.{banded_of, made_banded}
use Rattle.banded.specs.EqualBands.{with_equal_bands}
use Rattle.banded.proofs.Records.{record_of_lem}

-- a ramp gives as many colours as there are bands
pub ramp_count : (count : ℕ) (cmap : List ℕ) → length (ramp_colors count cmap) ≡ count
unfolding ramp_colors
ramp_count count cmap = length-tabulate count _

module _ (count : ℕ) (start end : Float) (colors : List ℕ) where
  pub equal_refused : {why : Refusal} → equal_refusal count start end (length colors) ≡ Err why → with_equal_bands count start end colors ≡ Err why
  unfolding with_equal_bands made_banded
  equal_refused e = not_made (banded_of (equal_bands count start end colors)) e

  -- of an array that holds the colours, then zeros
  pub equal_made : {bands : List LegendBand} {array : List ℕ} → equal_refusal count start end (length colors) ≡ Ok tt → array ≡ padded 0 256 colors
      → bands ≡ padded_bands (equal_bands count start end array) → with_equal_bands count start end colors ≡ Ok (record { bands = bands; count = count })
  unfolding with_equal_bands made_banded
  equal_made e p h =
      made_when (banded_of (equal_bands count start end colors)) e
      ∙ ap Ok (sym (record_of_lem (equal_bands count start end colors) (equal_length count start end colors)
      (h ∙ ap (λ (xs : List ℕ). padded_bands (equal_bands count start end xs)) p
      ∙ ap padded_bands (equal_padded count start end colors (equal_same count start end (length colors) e)))))
