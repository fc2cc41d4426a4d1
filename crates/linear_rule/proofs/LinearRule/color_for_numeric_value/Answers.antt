-- `LinearRule::color_for_numeric_value` meets its contract, phase by phase. Assumes nothing.
use Rattle.linear_rule.proofs.Choosing.{plain_phases}
use Rattle.linear_rule.proofs.LinearRule.color_for_numeric_value.Goals as goal

pub returns : goal.returns
returns c = plain_phases _ _ _ _ _ c.linear_map_to_float-fraction.ensures c.get_color-color.ensures c.in_range.ensures
