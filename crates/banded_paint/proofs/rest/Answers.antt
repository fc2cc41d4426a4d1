-- `rest` meets its contract. Assumes nothing.
use native.Mathlib.Omega.{arith}
use borrow.Author.Rules.{rules}
use Rattle.painting.proofs.LaneChunk.{rest_lanes}
use Rattle.painting.proofs.Whole.{rest_none}
use Rattle.banded_paint.proofs.rest.Goals as goal

pub returns-then-m-eq0 : goal.returns-then-m-eq0
returns-then-m-eq0 c = let a = c.args in rest_none _ a.src.now a.out.now a.base c.if-m-eq0.true (search rules)

pub returns : goal.returns
returns c =
    let a = c.args in
    rest_lanes a.src.now a.out.now a.base _ (omega arith) (omega arith) (omega arith) c.load-v.ensures c.store.ensures _ c.words.ensures
