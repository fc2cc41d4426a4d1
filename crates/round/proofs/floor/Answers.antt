-- `floor` meets its contract. Assumes nothing.
use lib.Ieee.{binary64, of_bits}
use Rattle.round.proofs.NotNan.{add_num, above_num, widens}
use Rattle.round.proofs.ReadOff.{whole_is}
use Rattle.round.proofs.floor.Goals as goal

pub float_to_float-y : goal.float_to_float-y
unfolding of_bits
float_to_float-y c = widens c.args.p c.row_known-1.given (above_num _ _ _ c.args.p c.requires.from_zero)

pub float_to_bits-result : goal.float_to_bits-result
unfolding of_bits
float_to_bits-result c = add_num binary64 c.args.p _ _ _ (above_num _ _ _ c.args.p c.requires.from_zero)

pub returns : goal.returns
returns c = whole_is c.args.p c.row_known-1.given c.requires.from_zero c.requires.below_1024
