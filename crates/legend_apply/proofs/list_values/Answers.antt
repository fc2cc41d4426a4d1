-- `list_values` meets its contract. Assumes nothing.
use borrow.Author.Rules.{rules}
use native.Mathlib.Omega.{arith}
use Prim.Native.Nat.{◌^◌}
use lib.Dec.{le→leb}
use lib.Ieee.{in_float}
use Rattle.lists.proofs.Filling.{filling_start, filling_turn, filled}
use Rattle.legend_apply.proofs.Listing.{value-is}
use Rattle.legend_apply.proofs.list_values.Goals as goal

pub loop-i-init : goal.loop-i-init
loop-i-init c = filling_start (search rules)

pub int_to_float-values : goal.int_to_float-values
unfolding in_float
int_to_float-values c = le→leb c.loop-i.i (2 ^ 24) (omega arith)

pub loop-i-preserved : goal.loop-i-preserved
loop-i-preserved c = filling_turn c.loop-i.invariant (omega arith) (omega arith) (value-is c.args.range c.loop-i.i)

pub returns : goal.returns
returns c = filled c.loop-i.invariant (omega arith)
