use mathlib.Core.Path.{◌≡◌}
use lib.ListN.{replicate}
use Rattle.categoric_build.specs.Table.{written}
use Rattle.categoric_build.proofs.table.create_fast_lookup.Given as goal

abbrev pub invariant-loop-i : goal.invariant-loop-i
invariant-loop-i l = l.lookup ≡ written l.i l.keys l.colors (replicate 513 0)
