-- What `lookup_size` cites: which keys have a table, and its size. Assumes nothing.
use lib.Seq.{length-take-le}
use Rattle.categoric_build.proofs.Tables.{not_tabled, is_tabled, empty-none, negative-none, large_none, has_table_lem, largest_to_512, largest_from_0}
use Rattle.categoric_lists.proofs.Numbers.{back, cast_is, cast_may}

pub ruleset table_sizes = (
  back,
  cast_is,
  cast_may,
  length-take-le,
  not_tabled,
  is_tabled,
  empty-none,
  negative-none,
  large_none,
  has_table_lem,
  largest_to_512,
  largest_from_0,
)
