-- `from_color_list` meets its contract. Assumes nothing.
use borrow.Author.Rules.{rules}
use native.Mathlib.Omega.{arith}
use Rattle.colormap.specs.Spread.{spread}
use Rattle.lists.proofs.Filling.{filling_start, filling_turn, filled}
use Rattle.colormap.proofs.from_color_list.Goals as goal

pub loop-i-init : goal.loop-i-init
loop-i-init c = filling_start (search rules)

pub loop-i-preserved : goal.loop-i-preserved
loop-i-preserved c = filling_turn c.loop-i.invariant (omega arith) (search rules) c.spread_at.ensures

pub returns : goal.returns
unfolding spread
returns c = filled c.loop-i.invariant (omega arith)
