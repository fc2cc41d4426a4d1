use mathlib.Core.Path.{◌≡◌}
use lib.ListN.{drop}
use Rattle.categoric_lists.specs.Keys.{outside_from}
use Rattle.categoric_lists.proofs.keys_refusal.Given as goal

abbrev pub invariant-loop-i : goal.invariant-loop-i
invariant-loop-i l = outside_from 0 l.keys ≡ outside_from l.i (drop l.i l.keys)
