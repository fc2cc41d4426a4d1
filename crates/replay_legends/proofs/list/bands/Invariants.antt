use Rattle.std.proofs.Common.{◌≡◌}
use Rattle.banded_lists.specs.Padded.{blank_band}
use Rattle.lists.specs.Padded.{padded}
use Rattle.lists.specs.Tabulate.{tabulate}
use Rattle.replay_legends.specs.Lists.{row_band}
use Rattle.replay_legends.proofs.list.bands.Given as goal

abbrev pub invariant-loop-i : goal.invariant-loop-i
invariant-loop-i l = l.bands ≡ padded blank_band 64 (tabulate l.i (row_band l.row))
