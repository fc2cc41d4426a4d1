use mathlib.Core.Path.{◌≡◌}
use lib.ListN.{length, get_or}
use lib.IntN.{pos}
use lib.Ieee.{nan}
use Rattle.lists.specs.Lanes.{Lanes}
use Rattle.cast.specs.Truncated.{truncated}
use Rattle.categoric_search.specs.forms.Narrow.{narrow_key}
use Rattle.categoric_search.proofs.narrow.narrowed_samples.Given as goal

abbrev pub invariant-loop-i : goal.invariant-loop-i
invariant-loop-i l = (length l.result ≡ 16) × Lanes (pos 0) l.i l.result (λ k. narrow_key (truncated (get_or l.value k nan)))
