use lib.ListN.{get_or}
use Rattle.lists.proofs.Padding.{Storing}
use mathlib.Core.Bool.{cond}
use lib.Ieee.{nan}
use Rattle.colormapper.specs.forms.Exclusions.{excluded}
use Rattle.colormapper.proofs.Exclusions.masked_simd.Given as goal

abbrev pub invariant-loop-i : goal.invariant-loop-i
invariant-loop-i l = Storing 0 (λ k. cond (excluded l.self (get_or l.value k nan)) l.nodata (get_or l.color k 0)) 16 l.lanes l.i l.result
