-- `color_step` meets its contract. Assumes nothing.
use native.Mathlib.Omega.{arith}
use Rattle.colormap.specs.Positions.{step}
use lib.Ieee.{of_bits, in_float}
use lib.Dec.{le→leb}
use borrow.Author.Tests.{eq-eqb, ne_eqb}
use Rattle.colormap.proofs.color_step.Goals as goal

pub returns-then-count-eq1 : goal.returns-then-count-eq1
unfolding step of_bits
returns-then-count-eq1 c = simp (eq-eqb _ _ c.if-count-eq1.true)

pub int_to_float-result : goal.int_to_float-result
unfolding in_float
int_to_float-result c = le→leb c.args.count 16777216 (omega arith)

pub returns : goal.returns
unfolding step of_bits
returns c = simp (ne_eqb _ _ c.if-count-eq1.false)
