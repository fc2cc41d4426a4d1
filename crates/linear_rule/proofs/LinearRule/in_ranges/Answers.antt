-- `LinearRule::in_ranges` meets its contract. Assumes nothing.
use Rattle.lists.proofs.Padding.{storing_start}
use Rattle.linear_rule.proofs.LinearRule.in_ranges.Goals as goal

pub loop-i-init : goal.loop-i-init
loop-i-init c = storing_start
