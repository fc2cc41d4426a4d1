-- `with_banded` meets its contract. Assumes nothing.
use mathlib.Core.Path.{ap₂}
use Rattle.legend.specs.declared.LegendKind.TheVariants as kind
use Rattle.legend.specs.declared.Legend.{Legend}
use Rattle.legend.proofs.Legend.with_banded.Goals as goal

pub returns : goal.returns
returns c =
    ap₂ {C = Legend} (λ x y. record
    { kind = kind.Banded; linear = x; banded = c.args.banded; categoric = y; mapping_config = c.args.config })
    c.default.ensures c.default-2.ensures
