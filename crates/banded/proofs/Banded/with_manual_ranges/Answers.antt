-- `Banded::with_manual_ranges` meets its contract: as many ranges are there as are counted. Assumes nothing.
use mathlib.Core.Path.{sym, ap, ◌∙◌}
use native.Mathlib.Omega.{arith}
use lib.ListN.{length-take}
use Rattle.banded_lists.specs.ManualRanges.{manual_refusal}
use Rattle.banded_lists.proofs.Manual.{manual_few}
use Rattle.banded.proofs.Manual.{manual_made}
use Rattle.banded.proofs.Banded.with_manual_ranges.Goals as goal

pub slice_bounds-range_bands-end : goal.slice_bounds-range_bands-end
slice_bounds-range_bands-end c =
    let few = manual_few c.args.values _ (sym c.manual_refusal.ensures ∙ c.in_ok-manual_refusal.was) in
    omega (arith, length-take c.args.values.count c.args.values.ranges)

pub returns : goal.returns
returns c =
    let ok = sym c.manual_refusal.ensures ∙ c.in_ok-manual_refusal.was in
    let few = manual_few c.args.values _ ok in
    let made = manual_made c.args.values c.args.colors.now ok c.list_colors.ensures
    (omega (arith, length-take c.args.values.count c.args.values.ranges)) c.range_bands-bands.ensures.0 c.range_bands-bands.ensures.1 in
    sym made
