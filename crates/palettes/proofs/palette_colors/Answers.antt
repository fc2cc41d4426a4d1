-- `palette_colors` meets its contract. Assumes nothing.
use Rattle.palettes.proofs.InTable.{size_le}
use Rattle.lists.proofs.Padding.{tabulate-padded}
use borrow.Author.Rules.{rules}
use native.Mathlib.Omega.{arith}
use mathlib.Core.Path.{◌∙◌}
use Rattle.lists.proofs.Filling.{filling_start, filling_turn, filled}
use Rattle.palettes.specs.Palettes.{palette}
use Rattle.palettes.proofs.palette_colors.Goals as goal

pub loop-i-init : goal.loop-i-init
loop-i-init c = filling_start (search rules)

pub loop-i-preserved : goal.loop-i-preserved
loop-i-preserved c = filling_turn c.loop-i.invariant (omega arith) (search rules) c.palette_color.ensures

pub returns : goal.returns
returns c =
    filled c.loop-i.invariant (omega arith) ∙ tabulate-padded 0 12 (palette c.args.number) (size_le c.args.number)
