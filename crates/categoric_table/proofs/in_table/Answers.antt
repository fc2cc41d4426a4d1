-- `in_table` meets its contract. Assumes nothing.
use mathlib.Core.Bool.{◌&&◌}
use mathlib.Core.Path.{ap}
use lib.Ieee.{of_bits, neg, lt}
use Rattle.categoric_table.specs.forms.InTable.{minus_one, in_table}
use Rattle.categoric_table.proofs.in_table.Goals as goal

pub returns : goal.returns
unfolding of_bits neg in_table
returns c = ap (λ l. lt minus_one c.args.value && lt c.args.value l) c.limit_of.ensures
