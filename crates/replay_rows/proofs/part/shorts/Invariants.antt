use Rattle.std.proofs.Common.{◌≡◌, pos}
use Rattle.lists.specs.Padded.{padded}
use Rattle.words.specs.Values.{short_of}
use Rattle.replay_rows.specs.Parts.{values_at}
use Rattle.replay_rows.proofs.part.shorts.Given as goal

abbrev pub invariant-loop-i : goal.invariant-loop-i
invariant-loop-i l = l.shorts ≡ padded (pos 0) 40 (values_at short_of 80 l.i l.row)
