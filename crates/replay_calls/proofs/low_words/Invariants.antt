use Rattle.std.proofs.Common.{◌≡◌}
use Rattle.lists.specs.Padded.{padded}
use Rattle.lists.specs.Tabulate.{tabulate}
use Rattle.replay_calls.specs.Rows.{whole_low, truncated_at}
use Rattle.replay_calls.proofs.low_words.Given as goal

abbrev pub invariant-loop-i : goal.invariant-loop-i
invariant-loop-i l = l.words ≡ padded 0 16 (tabulate l.i (λ k. whole_low (truncated_at l.samples k)))
