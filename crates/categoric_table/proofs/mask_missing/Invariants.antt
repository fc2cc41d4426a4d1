use mathlib.Core.Bool.{cond}
use lib.ListN.{get_or}
use lib.Ieee.{nan}
use Rattle.lists.proofs.Padding.{Storing}
use Rattle.categoric_table.specs.forms.InTable.{mappable_in_table}
use Rattle.categoric_table.proofs.mask_missing.Given as goal

abbrev pub invariant-loop-i : goal.invariant-loop-i
invariant-loop-i l =
    Storing 0 (λ k. cond (mappable_in_table l.exclusions l.size (get_or l.value k nan)) (get_or l.words k 0) l.nodata)
    16 l.lanes l.i l.result
