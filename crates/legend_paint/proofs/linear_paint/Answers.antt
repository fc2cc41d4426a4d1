-- `linear_paint` meets its contract. Assumes nothing.
use Rattle.legend_paint.proofs.linear_paint.Goals as goal

pub returns : goal.returns
returns c = cc (c.unmappable_colors-colors.ensures, c.exclusions_of.ensures)
