-- `palette_length` meets its contract. Assumes nothing.
use Rattle.palettes.proofs.InTable.{lengths_are, none}
use native.Mathlib.Omega.{arith}
use mathlib.Core.Path.{sym, ap}
use lib.ListN.{length}
use Rattle.palettes.proofs.palette_length.Goals as goal

pub returns-then-number-gt31 : goal.returns-then-number-gt31
returns-then-number-gt31 c = sym (ap length (none _ c.if-number-gt31.true))

pub returns : goal.returns
returns c = lengths_are _ (omega arith)
