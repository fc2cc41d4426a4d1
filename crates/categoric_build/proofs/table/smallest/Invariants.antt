use mathlib.Core.Path.{◌≡◌}
use lib.Signed.{lt_z}
use Rattle.categoric_build.specs.Table.{foremost}
use Rattle.categoric_build.proofs.table.smallest.Given as goal

abbrev pub invariant-loop-key : goal.invariant-loop-key
invariant-loop-key l = l.least ≡ foremost lt_z l.key-index l.keys
