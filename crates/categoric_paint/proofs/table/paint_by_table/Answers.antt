-- `paint_by_table` meets its contract. Assumes nothing.
use borrow.Author.Rules.{rules}
use native.Mathlib.Omega.{arith}
use mathlib.Core.Path.{◌∙◌}
use lib.Dec.{lit<}
use lib.ListN.{length-map}
use Rattle.painting.proofs.Steps.{chunks_start}
use Rattle.painting.proofs.Splitting.{plain_in_blocks}
use Rattle.categoric_paint.proofs.Chunks.{counted_turn, counted-end}
use Rattle.categoric_paint.proofs.table.paint_by_table.Goals as goal

pub loop-k-init : goal.loop-k-init
loop-k-init c = chunks_start (search rules)

pub loop-k-preserved : goal.loop-k-preserved
loop-k-preserved c = counted_turn c.loop-k.invariant (lit< tt) (omega arith) (λ xs. length-map xs _) c.block.ensures

pub returns : goal.returns
returns c = c.rest.ensures ∙ counted-end c.loop-k.invariant (lit< tt) (omega arith) ∙ plain_in_blocks 16 _ _
