use Prim.Native.Nat.{◌+◌}
use mathlib.Core.Bool.{cond}
use lib.ListN.{get_or}
use lib.Ieee.{nan, le}
use Rattle.lists.proofs.Padding.{Storing}
use Rattle.banded_search.proofs.indices.advance_indices.Given as goal

abbrev pub invariant-loop-i : goal.invariant-loop-i
invariant-loop-i l = Storing 0 (λ k. get_or l.indices k 0 + cond (le l.start (get_or l.value k nan)) 1 0) 16 l.lanes l.i l.result
