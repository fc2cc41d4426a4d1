-- `no_bands` meets its contract. Assumes nothing.
use mathlib.Core.Path.{sym}
use lib.Ieee.{of_bits}
use Rattle.lists.proofs.Padding.{padded-none}
use Rattle.banded_lists.specs.Padded.{blank_band}
use Rattle.banded_lists.proofs.no_bands.Goals as goal

pub returns : goal.returns
unfolding of_bits
returns c = sym (padded-none blank_band 64)
