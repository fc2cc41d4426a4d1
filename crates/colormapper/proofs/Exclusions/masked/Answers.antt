-- `Exclusions::masked` meets its contract. Assumes nothing.
use mathlib.Core.Path.{sym}
use Rattle.colormapper.proofs.Exclusions.masked.Goals as goal

pub returns-then-excludes : goal.returns-then-excludes
returns-then-excludes c = simp (sym c.excludes.ensures, c.if-excludes.true)

pub returns-else-excludes : goal.returns-else-excludes
returns-else-excludes c = simp (sym c.excludes.ensures, c.if-excludes.false)
