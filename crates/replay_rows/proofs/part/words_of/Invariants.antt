use Rattle.std.proofs.Common.{◌≡◌}
use Rattle.lists.specs.Padded.{padded}
use Rattle.lists.specs.Tabulate.{tabulate}
use Rattle.words.specs.Values.{word_at}
use Rattle.replay_rows.proofs.part.words_of.Given as goal

abbrev pub invariant-loop-i : goal.invariant-loop-i
invariant-loop-i l = l.words ≡ padded 0 1680 (tabulate l.i (word_at l.bytes))
