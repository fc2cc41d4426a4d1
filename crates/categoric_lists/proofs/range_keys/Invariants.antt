use mathlib.Core.Path.{◌≡◌}
use lib.IntN.{pos, ◌+ℤ◌}
use lib.ListN.{length}
use Rattle.lists.proofs.Padding.{Storing}
use Rattle.categoric_lists.proofs.range_keys.Given as goal

abbrev pub invariant-loop-i : goal.invariant-loop-i
invariant-loop-i l = (length l.keys ≡ 256) × Storing (pos 0) (λ k. l.start +ℤ pos k) 256 l.count l.i l.keys
