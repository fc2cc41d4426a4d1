-- `range_of` meets its contract. Assumes nothing.
use mathlib.Core.Path.{◌≡◌, sym, ap, ◌∙◌}
use native.Mathlib.Omega.{arith}
use lib.ListN.{length, length-take}
use Rattle.legend_range.specs.ValueRanges.{range_in}
use Rattle.legend.proofs.Stored.{bands-stored, categories-stored}
use Rattle.legend_range.proofs.Ranging.{range-stored, range-keys}
use borrow.Author.Rules.{rules}
use Rattle.legend_range.proofs.range_of.Goals as goal

pub slice_bounds-bands_range-end : goal.slice_bounds-bands_range-end
slice_bounds-bands_range-end c =
    let few = bands-stored c.args.legend.now (range-stored c.args.legend.now c.requires) c.in-Banded.is in
    let long : length c.args.legend.now.banded.bands ≡ 64 = search rules in omega (arith, length-take c.args.legend.now.banded.count c.args.legend.now.banded.bands)

pub slice_bounds-keys_range-end : goal.slice_bounds-keys_range-end
slice_bounds-keys_range-end c =
    let few = (categories-stored c.args.legend.now (range-stored c.args.legend.now c.requires) c.in-CategoricNumeric.is).0 in
    let long : length c.args.legend.now.categoric.keys ≡ 256 = search rules in
    omega (arith, length-take c.args.legend.now.categoric.count c.args.legend.now.categoric.keys)

pub keys_range-requires : goal.keys_range-requires
keys_range-requires c = range-keys c.args.legend.now c.requires c.in-CategoricNumeric.is
