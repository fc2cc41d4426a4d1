-- `value_or_nan` meets its contract. Assumes nothing.
use mathlib.Core.Path.{sym, ap}
use lib.Ieee.{of_bits, div}
use Rattle.colormapper.specs.forms.Exclusions.{value_or_nan}
use Rattle.colormapper.proofs.value_or_nan.Goals as goal

pub returns-in-None : goal.returns-in-None
unfolding of_bits div
returns-in-None c = sym (ap value_or_nan c.in-None.is)
