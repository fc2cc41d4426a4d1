-- `with_band` meets its contract. Assumes nothing.
use borrow.Author.Tests.{lt-ltb, le-ltb}
use Rattle.banded.specs.forms.OneByOne.{with_band}
use Rattle.banded.proofs.with_band.Goals as goal

pub returns-then-at-lt64 : goal.returns-then-at-lt64
unfolding with_band
returns-then-at-lt64 c = simp (lt-ltb _ _ c.if-at-lt64.true)

pub returns-else-at-lt64 : goal.returns-else-at-lt64
unfolding with_band
returns-else-at-lt64 c = simp (le-ltb _ _ c.if-at-lt64.false)
