-- `Banded::default` meets its contract. Assumes nothing.
use mathlib.Core.Path.{ap}
use Rattle.banded.specs.Record.{banded_of}
use Rattle.banded.proofs.Banded.default.Goals as goal

pub returns : goal.returns
unfolding banded_of
returns c = ap (λ l. record { bands = l; count = 0 }) c.no_bands.ensures
