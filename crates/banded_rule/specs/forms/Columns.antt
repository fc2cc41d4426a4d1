-- A form of the code: a list of bands that stands in three arrays, of which the first count entries are used. That the columns of a record are its counted
-- bands is legend_paint/proofs/Same.antt (bands_sample). Definitions only.
use Rattle.std.specs.Prelude.{ℕ, List, Float, get_or}
use Rattle.std.specs.Float.{nan}
use Rattle.lists.specs.Tabulate.{tabulate}
use Rattle.banded_columns.specs.declared.LegendBand.{LegendBand}
use Rattle.banded_rule.specs.declared.columns.Columns.{Columns}

-- the band at k
abbrev pub band_at : (starts ends : List Float) (colors : List ℕ) → ℕ → LegendBand
band_at starts ends colors k = record { start = get_or starts k nan; end = get_or ends k nan; color = get_or colors k 0 }

unfoldable pub from_columns : (starts ends : List Float) (colors : List ℕ) (count : ℕ) → List LegendBand
from_columns starts ends colors count = tabulate count (band_at starts ends colors)

-- the same of borrowed columns: the counted bands, and the one at k
abbrev pub bands_of : Columns → List LegendBand
bands_of c = from_columns c.starts.now c.ends.now c.colors.now c.count

abbrev pub nth_band : Columns → ℕ → LegendBand
nth_band c k = band_at c.starts.now c.ends.now c.colors.now k
