use lib.ListN.{get_or}
use lib.Ieee.{nan}
use Rattle.lists.proofs.Padding.{Storing}
use Rattle.banded_search.specs.forms.Indices.{color_at}
use Rattle.banded_search.proofs.colors_at.Given as goal

abbrev pub invariant-loop-i : goal.invariant-loop-i
invariant-loop-i l =
    Storing 0 (λ k. color_at l.starts l.ends l.colors (get_or l.indices k 0) (get_or l.value k nan) (get_or l.otherwise k 0)) 16 l.lanes l.i l.result
