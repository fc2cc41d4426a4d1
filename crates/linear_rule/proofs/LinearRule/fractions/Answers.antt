-- `LinearRule::fractions` meets its contract: all 0 where the start is above the end, else the lanes' fractions. Assumes nothing.
use mathlib.Core.Path.{sym}
use native.Mathlib.Omega.{arith}
use lib.Ieee.{of_bits}
use Rattle.lists.proofs.LanesOf.{lanes_agree, lanes-blank}
use Rattle.interpolate.specs.Fraction.{plain_fraction}
use Rattle.floats.specs.RampIndex.{nought}
use Rattle.linear_rule.proofs.LaneLaw.{fraction-same}
use Rattle.linear_rule.proofs.LinearRule.fractions.Goals as goal

pub returns-then-self : goal.returns-then-self
unfolding plain_fraction of_bits
returns-then-self c = lanes-blank nought 16 _ (omega arith) (λ k h. simp c.if-self.true)

pub returns : goal.returns
returns c = lanes_agree c.linear_map_to_float_simd.ensures (λ k h. sym (fraction-same _ _ _ c.if-self.false))
