-- `get_entry` meets its contract. Assumes nothing.
use Rattle.std.specs.Prelude.{Some}
use mathlib.Core.Path.{ap, ◌∙◌}
use Rattle.lookup.proofs.Lookups.{holds, both_hold, second_fails, first_fails, plain-inside, plain-outside}
use Rattle.floats.proofs.RampBounds.{times_low, times_high}
use lib.Ieee.{of_bits}
use Rattle.lookup.proofs.get_entry.Goals as goal

pub nearest-requires : goal.nearest-requires
unfolding of_bits
nearest-requires c = let h = holds (both_hold _ c.if-fraction.true c.if-fraction-2.true) in record { from_zero = times_low _ h; up_to_255 = times_high _ h }

pub returns-then-fraction-2 : goal.returns-then-fraction-2
unfolding of_bits
returns-then-fraction-2 c = ap Some c.nearest.ensures ∙ plain-inside _ (both_hold _ c.if-fraction.true c.if-fraction-2.true)

pub returns-else-fraction-2 : goal.returns-else-fraction-2
unfolding of_bits
returns-else-fraction-2 c = plain-outside _ (second_fails _ c.if-fraction.true c.if-fraction-2.false)

pub returns-else-fraction : goal.returns-else-fraction
unfolding of_bits
returns-else-fraction c = plain-outside _ (first_fails _ c.if-fraction.false)
