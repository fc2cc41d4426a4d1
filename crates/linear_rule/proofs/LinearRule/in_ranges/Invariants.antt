use lib.ListN.{get_or}
use lib.Ieee.{nan}
use Rattle.lists.proofs.Padding.{Storing}
use Rattle.linear_rule.specs.forms.LinearRules.{color_in_range}
use Rattle.linear_rule.proofs.LinearRule.in_ranges.Given as goal

abbrev pub invariant-loop-i : goal.invariant-loop-i
invariant-loop-i l = Storing 0 (λ k. color_in_range l.self (get_or l.value k nan) (get_or l.color k 0)) 16 l.lanes l.i l.result
