-- `banded_refusal` meets its contract. Assumes nothing.
use borrow.Author.Tests.{lt-ltb, le-ltb}
use Rattle.banded.specs.Record.{banded_refusal}
use Rattle.banded.proofs.banded_refusal.Goals as goal

pub returns-then-count-gt64 : goal.returns-then-count-gt64
unfolding banded_refusal
returns-then-count-gt64 c = simp (lt-ltb _ _ c.if-count-gt64.true)

pub returns : goal.returns
unfolding banded_refusal
returns c = simp (le-ltb _ _ c.if-count-gt64.false)
