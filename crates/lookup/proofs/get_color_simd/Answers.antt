-- `get_color_simd` meets its contract. Assumes nothing.
use Rattle.floats.specs.RampIndex.{in_unit}
use mathlib.Core.Bool.{cond}
use lib.Ieee.{nan}
use Rattle.lookup.proofs.Lookups.{lane_chosen}
use mathlib.Core.Path.{ap, ◌∙◌}
use lib.ListN.{get_or}
use Rattle.lists.proofs.LanesOf.{lane_at_lem, lanes_agree}
use Rattle.lookup.proofs.get_color_simd.Goals as goal

pub returns : goal.returns
returns c =
    let a = c.args in
    let gathered = lane_at_lem c.gather-gathered.ensures 0 in
    lanes_agree c.mask_outside.ensures
    (λ k h. ap (λ w. cond (in_unit (get_or a.fraction k nan)) w 0) (gathered k h) ∙ lane_chosen (get_or a.fraction k nan) a.cmap.now)
