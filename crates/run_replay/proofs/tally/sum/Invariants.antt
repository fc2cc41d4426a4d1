use Rattle.std.proofs.Common.{◌≡◌}
use Rattle.run_replay.specs.Tally.{sum_to}
use Rattle.run_replay.proofs.tally.sum.Given as goal

abbrev pub invariant-loop-number : goal.invariant-loop-number
invariant-loop-number l = l.total ≡ sum_to l.number-index l.numbers
