-- `zero_or_nan` meets its contract. Assumes nothing.
use lib.Ieee.{of_bits, div}
use Rattle.colormapper.proofs.zero_or_nan.Goals as goal

pub returns-then-flag : goal.returns-then-flag
unfolding of_bits div
returns-then-flag c = simp c.if-flag.true

pub returns-else-flag : goal.returns-else-flag
unfolding of_bits div
returns-else-flag c = simp c.if-flag.false
