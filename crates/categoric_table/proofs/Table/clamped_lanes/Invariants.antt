use lib.ListN.{get_or}
use lib.Ieee.{nan}
use Rattle.floats.specs.RampIndex.{nought}
use Rattle.lists.proofs.Padding.{Storing}
use Rattle.categoric_table.specs.forms.InTable.{clamp}
use Rattle.categoric_table.proofs.Table.clamped_lanes.Given as goal

abbrev pub invariant-loop-i : goal.invariant-loop-i
invariant-loop-i l = Storing nought (λ k. clamp l.self.size (get_or l.value k nan)) 16 l.lanes l.i l.result
