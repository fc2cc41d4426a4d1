-- The first i are stored.
use mathlib.Core.Path.{◌≡◌}
use Rattle.lists.specs.Padded.{padded}
use Rattle.card_bytes.specs.Numbers.{number_at}
use Rattle.card_bytes.specs.Entries.{entries_in}
use Rattle.card_read.proofs.values.ramp_in.Given as goal

abbrev pub invariant-loop-i : goal.invariant-loop-i
invariant-loop-i l = l.ramp ≡ padded 0 256 (entries_in 4 l.i (number_at 0 4) l.colors)
