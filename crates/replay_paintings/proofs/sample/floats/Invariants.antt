use Rattle.std.proofs.Common.{◌≡◌}
use Rattle.std.specs.Float.{binary32}
use Rattle.std.specs.Float.Ieee.{of_bits}
use Rattle.lists.specs.Padded.{padded}
use Rattle.replay_rows.specs.Parts.{values_at}
use Rattle.replay_paintings.specs.Samples.{sample_of, sample_type}
use Rattle.replay_paintings.proofs.sample.floats.Given as goal

abbrev pub invariant-loop-i : goal.invariant-loop-i
invariant-loop-i l = l.floats ≡ padded (of_bits binary32 0) 40 (values_at (sample_of (sample_type l.row)) 80 l.i l.row)
