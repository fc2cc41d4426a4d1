use mathlib.Core.Path.{◌≡◌}
use lib.Ieee.{nan}
use lib.ListN.{get_or}
use Rattle.banded_lanes.specs.forms.Scanning.{all_below}
use Rattle.banded_search.specs.forms.Indices.{held_at}
use Rattle.banded_search.proofs.all_held.Given as goal

abbrev pub invariant-loop-i : goal.invariant-loop-i
invariant-loop-i l = l.all ≡ all_below l.i (λ k. held_at l.starts l.ends (get_or l.indices k 0) (get_or l.value k nan))
