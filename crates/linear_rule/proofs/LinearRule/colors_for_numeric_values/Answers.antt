-- `LinearRule::colors_for_numeric_values` meets its contract, phase by phase in each lane. Assumes nothing.
use Rattle.linear_rule.proofs.Choosing.{plain-lanes}
use Rattle.linear_rule.proofs.LinearRule.colors_for_numeric_values.Goals as goal

pub returns : goal.returns
returns c =
    plain-lanes _ _ _ _ c.args.value c.in_ranges.ensures c.fractions-fraction.ensures c.get_colors-color.ensures
