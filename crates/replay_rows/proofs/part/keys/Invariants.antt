use Rattle.std.proofs.Common.{◌≡◌, pos}
use Rattle.lists.specs.Padded.{padded}
use Rattle.words.specs.Values.{whole_of}
use Rattle.replay_rows.specs.Parts.{values_at}
use Rattle.replay_rows.proofs.part.keys.Given as goal

abbrev pub invariant-loop-i : goal.invariant-loop-i
invariant-loop-i l = l.keys ≡ padded (pos 0) 16 (values_at whole_of 32 l.i l.row)
