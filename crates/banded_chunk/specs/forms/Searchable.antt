-- A form of the code: where the lanes of a chunk may be coloured by a search for their bands; the search is proved equal to the scan in
-- banded_search/proofs/ScanByIndices.antt (scan_at_indices). Definitions only.
use Rattle.std.specs.Prelude.{◌<◌, ◌≡◌, true}
use Rattle.banded_columns.specs.Order.{ascending_disjoint}
use Rattle.banded_rule.specs.declared.columns.Columns.{Columns}
use Rattle.banded_rule.specs.forms.Columns.{bands_of}

-- there are bands, and they ascend and are disjoint
pub record Searchable (columns : Columns) : Type 0 where
  pub some : 0 < columns.count
  pub ordered : ascending_disjoint (bands_of columns) ≡ true
