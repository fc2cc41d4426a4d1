-- `manual_refusal` meets its contract. Assumes nothing.
use borrow.Author.Tests.{lt-ltb, le-ltb, eq-eqb, ne_eqb}
use Rattle.banded_lists.specs.ManualRanges.{manual_refusal}
use Rattle.banded_lists.proofs.manual_refusal.Goals as goal

pub returns-then-count-gt64 : goal.returns-then-count-gt64
unfolding manual_refusal
returns-then-count-gt64 c = simp (lt-ltb _ _ c.if-count-gt64.true)

pub returns-then-first-count : goal.returns-then-first-count
unfolding manual_refusal
returns-then-first-count c = simp (← c.first_empty-first.ensures, le-ltb _ _ c.if-count-gt64.false, lt-ltb _ _ c.if-first-count.true)

pub returns-then-given-count : goal.returns-then-given-count
unfolding manual_refusal
returns-then-given-count c =
    simp (
      ← c.first_empty-first.ensures,
      le-ltb _ _ c.if-count-gt64.false,
      le-ltb _ _ c.if-first-count.false,
      ne_eqb _ _
          c.if-given-count.true,
    )

pub returns : goal.returns
unfolding manual_refusal
returns c =
    simp (
      ← c.first_empty-first.ensures,
      le-ltb _ _ c.if-count-gt64.false,
      le-ltb _ _ c.if-first-count.false,
      eq-eqb _ _
          c.if-given-count.false,
    )
