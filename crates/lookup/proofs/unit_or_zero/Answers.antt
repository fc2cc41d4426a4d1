-- `unit_or_zero` meets its contract. Assumes nothing.
use Rattle.lookup.proofs.Lookups.{nought-inside, both_hold, second_fails, first_fails, kept_inside, kept_outside}
use lib.Ieee.{of_bits}
use Rattle.lookup.proofs.unit_or_zero.Goals as goal

pub returns-then-fraction-2 : goal.returns-then-fraction-2
unfolding of_bits
returns-then-fraction-2 c = let h = both_hold _ c.if-fraction.true c.if-fraction-2.true in (kept_inside _ h, h)

pub returns-else-fraction-2 : goal.returns-else-fraction-2
unfolding of_bits
returns-else-fraction-2 c = (kept_outside _ (second_fails _ c.if-fraction.true c.if-fraction-2.false), nought-inside)

pub returns-else-fraction : goal.returns-else-fraction
unfolding of_bits
returns-else-fraction c = (kept_outside _ (first_fails _ c.if-fraction.false), nought-inside)
