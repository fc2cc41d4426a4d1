use Rattle.std.proofs.Common.{◌≡◌, ◌%◌}
use Rattle.lists.specs.Padded.{padded}
use Rattle.replay_rows.specs.Parts.{values_at}
use Rattle.replay_rows.proofs.part.bytes.Given as goal

abbrev pub invariant-loop-i : goal.invariant-loop-i
invariant-loop-i l = l.bytes ≡ padded 0 40 (values_at (λ w. w % 256) l.from l.i l.row)
