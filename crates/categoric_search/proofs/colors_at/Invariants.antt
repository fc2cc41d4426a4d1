use mathlib.Core.Path.{◌≡◌}
use lib.ListN.{length, get_or}
use Rattle.lists.specs.Lanes.{Lanes}
use Rattle.categoric_search.proofs.colors_at.Given as goal

abbrev pub invariant-loop-i : goal.invariant-loop-i
invariant-loop-i l = (length l.result ≡ 16) × Lanes 0 l.i l.result (λ k. get_or l.colors (get_or l.indices k 0) 0)
