-- What stands past the end of a list of ranges, as an array's reads have it. Assumes nothing.
use lib.Ieee.{nan}
use Rattle.banded_lists.specs.declared.ValueRange.{ValueRange}

abbrev pub no_range : ValueRange
no_range = record { start = nan; end = nan }
