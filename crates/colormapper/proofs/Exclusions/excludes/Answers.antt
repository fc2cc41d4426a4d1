-- `Exclusions::excludes` meets its contract. Assumes nothing.
use lib.Ieee.{eq}
use mathlib.Core.Bool.{◌||◌}
use Rattle.colormapper.proofs.Excluding.{differs}
use mathlib.Core.Path.{ap}
use Rattle.colormapper.specs.forms.Exclusions.{excluded}
use Rattle.colormapper.proofs.Exclusions.excludes.Goals as goal

pub returns : goal.returns
unfolding excluded
returns c =
    let v = c.args.value in ap (λ b. (b || eq v c.args.self.nodata) || eq v c.args.self.zero)
    (differs v)
