use Rattle.tally.proofs.Spreading.{Spreading}
use Rattle.tally.proofs.Tally.add.Given as goal

abbrev pub invariant-loop-s : goal.invariant-loop-s
invariant-loop-s l = Spreading l.initial.counts l.rules l.totals l.s l.counts
