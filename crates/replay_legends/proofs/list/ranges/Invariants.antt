use Rattle.std.proofs.Common.{◌≡◌}
use Rattle.floats.specs.RampIndex.{nought}
use Rattle.lists.specs.Padded.{padded}
use Rattle.lists.specs.Tabulate.{tabulate}
use Rattle.replay_legends.specs.Lists.{row_range}
use Rattle.replay_legends.proofs.list.ranges.Given as goal

abbrev pub invariant-loop-i : goal.invariant-loop-i
invariant-loop-i l = l.ranges ≡ padded (record { start = nought; end = nought }) 64 (tabulate l.i (row_range l.row))
