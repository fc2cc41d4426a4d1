use mathlib.Core.List.{map, ◌++◌}
use lib.ListN.{take, drop}
use Rattle.painting.proofs.Steps.{Plainly}
use Rattle.linear_paint.specs.forms.Samples.{plain_sample}
use Rattle.linear_paint.proofs.LinearPaint.rest.Given as goal

abbrev pub invariant-loop-i : goal.invariant-loop-i
invariant-loop-i l = Plainly (take l.base l.initial.out ++ map (plain_sample l.self) (drop l.base l.src)) (plain_sample l.self) l.src l.i l.out
