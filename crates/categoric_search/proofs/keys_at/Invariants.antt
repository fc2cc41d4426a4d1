use mathlib.Core.Path.{◌≡◌}
use lib.ListN.{length, get_or}
use lib.IntN.{pos}
use Rattle.lists.specs.Lanes.{Lanes}
use Rattle.categoric_search.proofs.keys_at.Given as goal

abbrev pub invariant-loop-i : goal.invariant-loop-i
invariant-loop-i l = (length l.result ≡ 16) × Lanes (pos 0) l.i l.result (λ k. get_or l.narrow (get_or l.indices k 0) (pos 0))
