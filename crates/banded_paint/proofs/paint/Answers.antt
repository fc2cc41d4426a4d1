-- `paint` meets its contract. Assumes nothing.
use borrow.Author.Rules.{rules}
use native.Mathlib.Omega.{arith}
use mathlib.Core.Path.{sym, ◌∙◌}
use lib.ListN.{length-map}
use Rattle.painting.proofs.Splitting.{plain_in_blocks}
use Rattle.banded_paint.proofs.Numbered.{numbered_start, numbered_turn, numbered_end}
use Rattle.banded_paint.proofs.paint.Goals as goal

pub loop-k-init : goal.loop-k-init
loop-k-init c = numbered_start (search rules)

pub block-requires : goal.block-requires
block-requires c = (λ h. sym (c.ascending_disjoint-search.ensures _) ∙ h, omega arith, omega arith)

pub loop-k-preserved : goal.loop-k-preserved
loop-k-preserved c = numbered_turn c.loop-k.invariant c.block.ensures (λ xs. length-map xs _) (omega arith) (omega arith)

pub rest-requires : goal.rest-requires
rest-requires c = (λ h. sym (c.ascending_disjoint-search.ensures _) ∙ h, omega arith, omega arith, search rules)

pub returns : goal.returns
returns c = c.rest.ensures ∙ numbered_end c.loop-k.invariant (omega arith) (omega arith) ∙ plain_in_blocks 16 _ _
