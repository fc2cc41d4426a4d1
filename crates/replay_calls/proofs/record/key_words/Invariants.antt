use Rattle.std.proofs.Common.{◌≡◌, get_or, pos}
use Rattle.lists.specs.Padded.{padded}
use Rattle.lists.specs.Tabulate.{tabulate}
use Rattle.words.specs.Values.{low_of}
use Rattle.replay_calls.proofs.record.key_words.Given as goal

abbrev pub invariant-loop-i : goal.invariant-loop-i
invariant-loop-i l = l.words ≡ padded 0 256 (tabulate l.i (λ k. low_of (get_or l.keys k (pos 0))))
