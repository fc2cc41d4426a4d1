use mathlib.Core.Path.{◌≡◌}
use lib.Signed.{lt_z}
use Rattle.categoric_build.specs.Table.{foremost}
use Rattle.categoric_build.proofs.table.largest.Given as goal

abbrev pub invariant-loop-key : goal.invariant-loop-key
invariant-loop-key l = l.most ≡ foremost (λ x y. lt_z y x) l.key-index l.keys
