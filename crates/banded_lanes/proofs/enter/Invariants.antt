use mathlib.Core.Path.{◌≡◌}
use mathlib.Core.Bool.{false, cond, ◌||◌}
use lib.ListN.{get_or}
use lib.Ieee.{nan}
use Rattle.banded_columns.specs.Band.{holds}
use Rattle.banded_lanes.specs.forms.Scanning.{all_below}
use Rattle.banded_lanes.proofs.Updating.{Updating}
use Rattle.banded_lanes.proofs.enter.Given as goal

abbrev pub invariant-loop-i : goal.invariant-loop-i
invariant-loop-i l =
    Updating 0 (λ k. cond (holds l.band (get_or l.value k nan)) l.band.color (get_or l.initial.words k 0)) l.lanes l.initial.words l.i l.words
    × Updating false (λ k. get_or l.initial.inside k false || holds l.band (get_or l.value k nan)) l.lanes l.initial.inside l.i l.inside
    × (l.all ≡ all_below l.i (λ k. get_or l.initial.inside k false || holds l.band (get_or l.value k nan)))
