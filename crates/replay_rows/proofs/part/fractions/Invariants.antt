use Rattle.std.proofs.Common.{◌≡◌}
use Rattle.std.specs.Float.{binary32}
use Rattle.std.specs.Float.Ieee.{of_bits}
use Rattle.lists.specs.Padded.{padded}
use Rattle.words.specs.Values.{float_of}
use Rattle.replay_rows.specs.Parts.{values_at}
use Rattle.replay_rows.proofs.part.fractions.Given as goal

abbrev pub invariant-loop-i : goal.invariant-loop-i
invariant-loop-i l = l.floats ≡ padded (of_bits binary32 0) 16 (values_at float_of 80 l.i l.row)
