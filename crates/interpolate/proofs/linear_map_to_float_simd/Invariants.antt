use lib.ListN.{get_or}
use Rattle.interpolate.specs.Fraction.{fraction}
use lib.Ieee.{nan}
use Rattle.floats.specs.RampIndex.{nought}
use Rattle.lists.proofs.Padding.{Storing}
use Rattle.interpolate.proofs.linear_map_to_float_simd.Given as goal

abbrev pub invariant-loop-i : goal.invariant-loop-i
invariant-loop-i l = Storing nought (λ k. fraction l.min l.max (get_or l.value k nan)) 16 l.lanes l.i l.result
