-- `banded_paint` meets its contract. Assumes nothing.
use mathlib.Core.Path.{ap₂}
use Rattle.colormapper.specs.declared.UnmappableColors.{UnmappableColors}
use Rattle.colormapper.specs.declared.Exclusions.{Exclusions}
use Rattle.legend_paint.proofs.banded_paint.Goals as goal

pub returns : goal.returns
returns c =
    let a = c.args in ap₂ (λ (u : UnmappableColors) (e : Exclusions). record { unmappable = u; exclusions = e })
    c.unmappable_colors.ensures c.exclusions_of.ensures
