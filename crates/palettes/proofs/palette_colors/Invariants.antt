use lib.ListN.{get_or}
use Rattle.lists.proofs.Filling.{Filling}
use Rattle.palettes.specs.Palettes.{palette}
use Rattle.palettes.proofs.palette_colors.Given as goal

abbrev pub invariant-loop-i : goal.invariant-loop-i
invariant-loop-i l = Filling 0 (λ k. get_or (palette l.number) k 0) 12 12 l.i l.colors
