use mathlib.Core.Bool.{true}
use mathlib.Core.Path.{◌≡◌}
use Rattle.categoric_lists.specs.Ascending.{ascends}
use Rattle.categoric_keys.proofs.ascending.Given as goal

abbrev pub invariant-loop-i : goal.invariant-loop-i
invariant-loop-i l = ascends l.keys l.i ≡ true
