-- `limit_of` meets its contract. Assumes nothing.
use mathlib.Core.Path.{sym, ap}
use native.Mathlib.Omega.{arith}
use lib.Ieee.{of_bits, neg, in_float}
use lib.Dec.{le→leb}
use Rattle.categoric_table.specs.forms.InTable.{size_limit}
use Rattle.categoric_table.proofs.limit_of.Goals as goal

pub int_to_float-result : goal.int_to_float-result
unfolding in_float
int_to_float-result c = le→leb c.args.size 16777216 (omega arith)

pub returns-then-size-eq0 : goal.returns-then-size-eq0
unfolding size_limit of_bits neg
returns-then-size-eq0 c = sym (ap size_limit c.if-size-eq0.true)
