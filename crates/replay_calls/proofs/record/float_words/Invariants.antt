use Rattle.std.proofs.Common.{◌≡◌, get_or}
use Rattle.std.specs.Float.{nan}
use Rattle.lists.specs.Padded.{padded}
use Rattle.lists.specs.Tabulate.{tabulate}
use Rattle.words.specs.Values.{bits_of}
use Rattle.replay_calls.proofs.record.float_words.Given as goal

abbrev pub invariant-loop-i : goal.invariant-loop-i
invariant-loop-i l = l.words ≡ padded 0 64 (tabulate l.i (λ k. bits_of (get_or l.floats k nan)))
