-- `mask_missing` meets its contract. Assumes nothing.
use mathlib.Core.Path.{◌∙◌}
use native.Mathlib.Omega.{arith}
use Rattle.lists.proofs.Padding.{storing_start, storing_turn}
use Rattle.lists.proofs.LanesOf.{lanes-stored}
use Rattle.categoric_table.specs.forms.InTable.{mappable_in_table}
use Rattle.categoric_table.proofs.mask_missing.Goals as goal

pub loop-i-init : goal.loop-i-init
loop-i-init c = storing_start

pub loop-i-preserved : goal.loop-i-preserved
unfolding mappable_in_table
loop-i-preserved c = storing_turn c.loop-i.invariant (omega arith) (omega arith) (c.pick.ensures ∙ cc c.in_table.ensures)

pub returns : goal.returns
returns c = lanes-stored c.loop-i.invariant (omega arith)
