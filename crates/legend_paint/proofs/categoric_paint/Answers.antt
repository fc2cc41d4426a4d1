-- `categoric_paint` meets its contract. Assumes nothing.
use mathlib.Core.Path.{ap}
use Rattle.colormapper.specs.declared.Exclusions.{Exclusions}
use Rattle.legend_paint.proofs.categoric_paint.Goals as goal

pub returns : goal.returns
returns c = let a = c.args in ap (λ (e : Exclusions). record { nodata = a.config.nodata_color; exclusions = e }) c.exclusions_of.ensures
