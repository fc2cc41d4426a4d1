-- `empty` meets its contract. Assumes nothing.
use mathlib.Core.Path.{ap₂, ◌∙◌}
use Rattle.legend.specs.Record.{linear_legend}
use Rattle.legend.proofs.Legend.empty.Goals as goal

pub returns : goal.returns
returns c = c.with_linear.ensures ∙ ap₂ linear_legend c.default.ensures c.default-2.ensures
