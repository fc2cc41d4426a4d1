-- `with_categoric` meets its contract. Assumes nothing.
use mathlib.Core.Path.{ap₂}
use Rattle.legend.specs.declared.LegendKind.TheVariants as kind
use Rattle.legend.specs.declared.Legend.{Legend}
use Rattle.legend.proofs.Legend.with_categoric.Goals as goal

pub returns : goal.returns
returns c =
    ap₂ {C = Legend} (λ x y. record {
      kind = kind.CategoricNumeric;
      linear = x;
      banded = y;
      categoric = c.args.categoric;
      mapping_config = c.args.config;
    }) c.default.ensures c.default-2.ensures
