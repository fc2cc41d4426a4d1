-- The builders of bands with manual ranges: what they answer. Assumes nothing.
use Rattle.std.specs.Prelude.{Ok, Err}
use mathlib.Core.Path.{◌≡◌, sym, ap, ◌∙◌}
use mathlib.Core.List.{List}
use Prim.Native.Nat.{ℕ}
use native.Mathlib.Omega.{arith}
use lib.ListN.{length}
use Rattle.lists.specs.Padded.{padded}
use Rattle.refusal.specs.declared.Refusal.{Refusal}
use Rattle.refusal.proofs.Outcomes.{not_made, made_when}
use Rattle.banded_columns.specs.declared.LegendBand.{LegendBand}
use Rattle.banded_lists.specs.declared.ValueRanges.{ValueRanges}
use Rattle.banded_lists.specs.Padded.{padded_bands}
use Rattle.banded_lists.specs.ManualRanges.{ranges_of, range_bands, manual_refusal}
use Rattle.banded_lists.proofs.Manual.{manual_same, range-padded}
use Rattle.banded.specs.Record.{banded_of, made_banded}
use Rattle.banded.specs.ManualRanges.{with_manual_ranges}
use Rattle.banded.proofs.Records.{record_of_lem}

module _ (values : ValueRanges) (colors : List ℕ) where
  pub manual_refused : {why : Refusal} → manual_refusal values (length colors) ≡ Err why → with_manual_ranges values colors ≡ Err why
  unfolding with_manual_ranges made_banded
  manual_refused e = not_made (banded_of (range_bands (ranges_of values) colors)) e

  -- of an array that holds the colours, then zeros
  pub manual_made : {bands : List LegendBand} {array : List ℕ} → manual_refusal values (length colors) ≡ Ok tt → array ≡ padded 0 256 colors
      → values.count ≡ length (ranges_of values)
      → bands ≡ padded_bands (range_bands (ranges_of values) array) → length (range_bands (ranges_of values) array) ≡ length (ranges_of values)
      → with_manual_ranges values colors ≡ Ok (record { bands = bands; count = values.count })
  unfolding with_manual_ranges made_banded
  manual_made e p all h n =
      let s = manual_same values (length colors) e in
      let same = ap (range_bands (ranges_of values)) p ∙ range-padded (ranges_of values) colors (omega arith) in
      made_when (banded_of (range_bands (ranges_of values) colors)) e
      ∙ ap Ok (sym (record_of_lem (range_bands (ranges_of values) colors) (ap (λ (bs : List LegendBand). length bs) (sym same) ∙ n ∙ sym all) (h ∙ ap padded_bands same)))
