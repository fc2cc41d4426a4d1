-- `range_refusal` meets its contract. Assumes nothing.
use Rattle.linear.specs.Made.{range_refusal}
use Rattle.linear.proofs.range_refusal.Goals as goal

pub returns-then-start-end : goal.returns-then-start-end
unfolding range_refusal
returns-then-start-end c = simp c.if-start-end.true

pub returns : goal.returns
unfolding range_refusal
returns c = simp c.if-start-end.false
