use lib.ListN.{get_or}
use Rattle.lists.proofs.Padding.{Storing}
use lib.Ieee.{nan}
use mathlib.Core.Bool.{cond}
use Rattle.floats.specs.RampIndex.{in_unit}
use Rattle.lookup.proofs.mask_outside.Given as goal

abbrev pub invariant-loop-i : goal.invariant-loop-i
invariant-loop-i l = Storing 0 (λ k. cond (in_unit (get_or l.fraction k nan)) (get_or l.colors k 0) 0) 16 l.lanes l.i l.result
