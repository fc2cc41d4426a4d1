-- `with_linear` meets its contract. Assumes nothing.
use mathlib.Core.Path.{ap₂}
use Rattle.legend.specs.declared.LegendKind.TheVariants as kind
use Rattle.legend.specs.declared.Legend.{Legend}
use Rattle.legend.proofs.Legend.with_linear.Goals as goal

pub returns : goal.returns
returns c =
    ap₂ {C = Legend} (λ x y. record
    { kind = kind.Linear; linear = c.args.linear; banded = x; categoric = y; mapping_config = c.args.config })
    c.default.ensures c.default-2.ensures
