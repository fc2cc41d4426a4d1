-- The colours that a builder takes from a ramp: their positions, by repeated addition (docs/RULES.md, "Banded"). Definitions only.
use Rattle.std.specs.Prelude.{ℕ, zero, suc, cond, List, eqb, pos, Float}
use Rattle.std.specs.Float.{binary32}
use Rattle.std.specs.Float.Ieee.{add, sub, div, of_int}
use Rattle.floats.specs.RampIndex.{nought, one}
use Rattle.lists.specs.Tabulate.{tabulate}
use Rattle.lookup.specs.Entries.{plain_entry, entry_color}

-- s = 1 / (count - 1), or 0 for one colour
unfoldable pub step : (count : ℕ) → Float
step count = cond (eqb count 1) nought (div binary32 one (sub binary32 (of_int binary32 (pos count)) one))

-- 0, s, s + s, ..
unfoldable pub position : (count k : ℕ) → Float
position count zero = nought
position count (suc k) = add binary32 (position count k) (step count)

-- the colours at the first `count` positions
unfoldable pub ramp_colors : (count : ℕ) (cmap : List ℕ) → List ℕ
ramp_colors count cmap = tabulate count (λ k. entry_color cmap (plain_entry (position count k)))
