use Rattle.colormap.specs.Spread.{spread_at}
use Rattle.lists.proofs.Filling.{Filling}
use Rattle.colormap.proofs.from_color_list.Given as goal

abbrev pub invariant-loop-i : goal.invariant-loop-i
invariant-loop-i l = Filling 0 (spread_at l.colors) 256 256 l.i l.cmap
