use Rattle.tally.proofs.Weighing.{Weighing}
use Rattle.tally.proofs.weigh.Given as goal

abbrev pub invariant-loop-i : goal.invariant-loop-i
invariant-loop-i l = Weighing l.weights l.m l.codes l.number l.i l.result
