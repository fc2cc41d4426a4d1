-- A loop that stores bands over blank ones, at its start. Assumes nothing.
use mathlib.Core.Path.{◌≡◌, sym, subst, ◌∙◌}
use mathlib.Core.List.{List, []}
use Prim.Native.Nat.{ℕ}
use Rattle.lists.proofs.Padding.{padded-none, Storing, storing_start}
use Rattle.banded_columns.specs.declared.LegendBand.{LegendBand}
use Rattle.banded_lists.specs.Padded.{blank_band, padded_bands}

pub no_bands-stored : {n : ℕ} {f : ℕ → LegendBand} {r : List LegendBand} → r ≡ padded_bands [] → Storing blank_band f 64 n 0 r
no_bands-stored {n} {f} e = subst (Storing blank_band f 64 n 0) (sym (e ∙ padded-none blank_band 64)) storing_start
