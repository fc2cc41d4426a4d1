-- The record of a list of bands: which bands it counts, and a record of bands in their places. Assumes nothing.
use mathlib.Core.Path.{◌≡◌, sym, ap₂}
use mathlib.Core.List.{List}
use Prim.Native.Nat.{ℕ, ◌≤◌}
use lib.ListN.{length}
use Rattle.lists.proofs.Padding.{length-padded}
use Rattle.banded_columns.specs.declared.LegendBand.{LegendBand}
use Rattle.banded_lists.specs.Padded.{blank_band, padded_bands}
use Rattle.banded.specs.declared.Banded.{Banded}
use Rattle.banded.specs.Record.{banded_of}

pub band_indices_lem : (bands : List LegendBand) → length bands ≤ 64 → length (banded_of bands).bands ≡ 64
unfolding banded_of
band_indices_lem bands h = length-padded blank_band 64 bands h

-- bands in their places, and how many they are
pub record_of_lem : (bands : List LegendBand) {r : List LegendBand} {n : ℕ} → length bands ≡ n → r ≡ padded_bands bands
    → ◌≡◌ {A = Banded} (record { bands = r; count = n }) (banded_of bands)
unfolding banded_of
record_of_lem bands e h = ap₂ (λ x y. record { bands = x; count = y }) h (sym e)
