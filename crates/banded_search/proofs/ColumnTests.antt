-- Tests of bands that stand in columns: of none, of one, and of one band more, as the code makes them. Assumes nothing.
use mathlib.Core.Path.{◌≡◌, refl}
use mathlib.Core.Bool.{Bool, true, ◌&&◌}
use mathlib.Core.List.{List}
use Prim.Native.Nat.{ℕ, zero, suc, ◌+◌, ◌-◌, ◌≤◌, ◌<◌}
use native.Mathlib.Numerals.{add-one}
use native.Mathlib.Omega.{arith}
use lib.Ieee.{Float}
use Rattle.lists.specs.Each.{each}
use Rattle.lists.proofs.Each.{each_more}
use Rattle.lists.specs.Tabulate.{tabulate}
use Rattle.banded_columns.specs.declared.LegendBand.{LegendBand}
use Rattle.banded_columns.specs.Order.{each_after, each_next}
use Rattle.banded_columns.proofs.Ordering.{next_more}
use Rattle.banded_rule.specs.forms.Columns.{band_at, from_columns}

module _ (starts ends : List Float) (colors : List ℕ) where
  abbrev f : ℕ → LegendBand
  f = band_at starts ends colors

  abbrev bands : ℕ → List LegendBand
  bands = from_columns starts ends colors

  pub each_none : (test : LegendBand → Bool) → true ≡ each test (bands 0)
  unfolding from_columns tabulate each
  each_none test = refl

  pub each-band_more : (test : LegendBand → Bool) (i : ℕ) → (each test (bands i) && test (f i)) ≡ each test (bands (i + 1))
  unfolding from_columns
  each-band_more test i = rw (add-one i, each_more test i f)

  pub next_few : (test : LegendBand → LegendBand → Bool) (i : ℕ) → i ≤ 1 → true ≡ each_next test (bands i)
  unfolding from_columns tabulate each_next each_after
  next_few test zero h = refl
  next_few test (suc zero) h = refl
  next_few test (suc (suc i)) h = absurd (omega arith)

  pub next_band_more : (test : LegendBand → LegendBand → Bool) (i : ℕ) → 0 < i → (each_next test (bands i) && test (f (i - 1)) (f i))
      ≡ each_next test (bands (i + 1))
  unfolding from_columns
  next_band_more test zero h = absurd (omega arith)
  next_band_more test (suc n) h =
      let e : suc n - 1 ≡ n = omega arith in
      rw (add-one (suc n), e, next_more test n f)
