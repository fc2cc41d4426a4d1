-- `equal_refusal` meets its contract. Assumes nothing.
use borrow.Author.Tests.{lt-ltb, le-ltb, eq-eqb, ne_eqb}
use Rattle.banded_lists.specs.EqualBands.{equal_refusal}
use Rattle.banded_lists.proofs.equal_refusal.Goals as goal

pub returns-then-start-end : goal.returns-then-start-end
unfolding equal_refusal
returns-then-start-end c = simp c.if-start-end.true

pub returns-then-count-gt64 : goal.returns-then-count-gt64
unfolding equal_refusal
returns-then-count-gt64 c = simp (c.if-start-end.false, lt-ltb _ _ c.if-count-gt64.true)

pub returns-then-given-count : goal.returns-then-given-count
unfolding equal_refusal
returns-then-given-count c = simp (c.if-start-end.false, le-ltb _ _ c.if-count-gt64.false, ne_eqb _ _ c.if-given-count.true)

pub returns : goal.returns
unfolding equal_refusal
returns c = simp (c.if-start-end.false, le-ltb _ _ c.if-count-gt64.false, eq-eqb _ _ c.if-given-count.false)
