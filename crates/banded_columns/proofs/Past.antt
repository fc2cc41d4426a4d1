-- What stands past the end of a list of bands, as an array's reads have it. Assumes nothing.
use lib.Ieee.{nan}
use Rattle.banded_columns.specs.declared.LegendBand.{LegendBand}

abbrev pub no_band : LegendBand
no_band = record { start = nan; end = nan; color = 0 }
