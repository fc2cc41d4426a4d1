-- `last_color` meets its contract. Assumes nothing.
use mathlib.Core.Path.{sym}
use native.Mathlib.Omega.{arith}
use Rattle.banded_columns.proofs.Outer.{last_is}
use Rattle.banded_columns.proofs.Past.{no_band}
use Rattle.banded_columns.proofs.last_color.Goals as goal

pub returns-in-len1-up : goal.returns-in-len1-up
returns-in-len1-up c = sym (last_is no_band c.args.other c.args.bands.now (omega arith))
