use mathlib.Core.Path.{◌≡◌}
use lib.ListN.{length, get_or}
use lib.IntN.{pos}
use Rattle.lists.specs.Lanes.{Lanes}
use Rattle.categoric_search.specs.forms.Bisection.{first_step}
use Rattle.categoric_search.proofs.first_steps.Given as goal

abbrev pub invariant-loop-i : goal.invariant-loop-i
invariant-loop-i l = (length l.result ≡ 16) × Lanes 0 l.i l.result (λ k. first_step l.narrow (get_or l.key k (pos 0)))
