-- `compute_unmappable_colors` meets its contract. Assumes nothing.
use Rattle.colormapper.proofs.compute_unmappable_colors.Goals as goal

pub returns : goal.returns
returns c = λ j. record { nodata = c.args.config.nodata_color; low = c.unwrap_or.ensures j; high = c.unwrap_or-2.ensures j }
