use Rattle.tally.proofs.Unpacking.{Unpacking}
use Rattle.tally.proofs.unpack.Given as goal

abbrev pub invariant-loop-s : goal.invariant-loop-s
invariant-loop-s l = Unpacking l.initial.result l.number l.s l.rest l.result
