-- `unmappable_colors` meets its contract: the two lookups are the ramp's ends. Assumes nothing.
use mathlib.Core.Path.{ap₂, ◌∙◌}
use lib.Ieee.{of_bits}
use Rattle.colormapper.specs.Settings.{unmappable_colors}
use Rattle.linear.specs.Made.{linear_colors}
use Rattle.linear.proofs.unmappable_colors.Goals as goal

pub returns : goal.returns
unfolding linear_colors of_bits
returns c =
    c.compute_unmappable_colors.ensures ∙ ap₂ (unmappable_colors c.args.config) c.get_color-low.ensures
    c.get_color-high.ensures
