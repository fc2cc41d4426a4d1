-- `Linear::default` meets its contract: its literals are the definition's values. Assumes nothing.
use mathlib.Core.Path.{refl}
use lib.Ieee.{of_bits}
use Rattle.linear.proofs.Linear.default.Goals as goal

pub returns : goal.returns
unfolding of_bits
returns c = refl
