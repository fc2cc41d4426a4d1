use lib.ListN.{get_or}
use lib.Ieee.{nan}
use Rattle.lists.proofs.Padding.{Storing}
use Rattle.floats.specs.RampIndex.{floor_of}
use Rattle.categoric_table.proofs.words_at.Given as goal

abbrev pub invariant-loop-i : goal.invariant-loop-i
invariant-loop-i l = Storing 0 (λ k. get_or l.lookup (floor_of (get_or l.places k nan)) 0) 16 l.lanes l.i l.result
