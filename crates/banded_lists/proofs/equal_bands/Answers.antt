-- `equal_bands` meets its contract. Assumes nothing.
use native.Mathlib.Omega.{arith}
use lib.Ieee.{in_float}
use lib.Dec.{le→leb}
use borrow.Author.Rules.{rules}
use Rattle.lists.proofs.Padding.{storing_end}
use Rattle.banded_lists.specs.EqualBands.{band_step, equal_bands}
use Rattle.banded_lists.proofs.Equal.{laying_start, laying_turn}
use Rattle.banded_lists.proofs.equal_bands.Goals as goal

pub int_to_float-step : goal.int_to_float-step
unfolding in_float
int_to_float-step c = le→leb c.args.count 16777216 (omega arith)

pub loop-i-init : goal.loop-i-init
loop-i-init c = (search rules, laying_start c.no_bands-bands.ensures)

pub loop-i-preserved : goal.loop-i-preserved
loop-i-preserved c = (search rules, laying_turn c.loop-i.invariant.1 (omega arith) (search rules) c.band_from.ensures)

pub returns : goal.returns
unfolding equal_bands band_step
returns c = storing_end c.loop-i.invariant.1.stored (omega arith)
