use mathlib.Core.Path.{◌≡◌}
use lib.ListN.{length, take}
use Rattle.card_bytes.specs.Numbers.{overwritten}
use Rattle.card_bytes.proofs.put_all.Given as goal

abbrev pub invariant-loop-i : goal.invariant-loop-i
invariant-loop-i l = (length l.bytes ≡ length l.initial.bytes) × (l.bytes ≡ overwritten l.at (take l.i l.part) l.initial.bytes)
