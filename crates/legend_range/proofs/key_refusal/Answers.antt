-- `key_refusal` meets its contract. Assumes nothing.
use mathlib.Core.Path.{◌≡◌, sym, ap, ◌∙◌}
use native.Mathlib.Omega.{arith}
use lib.ListN.{length, length-take}
use Rattle.categoric_lists.specs.Keys.{outside_from, keys_refusal}
use Rattle.legend_range.specs.ValueRanges.{keys_in}
use Rattle.legend.proofs.Stored.{categories-stored}
use borrow.Author.Rules.{rules}
use Rattle.legend_range.proofs.key_refusal.Goals as goal

pub slice_bounds-keys_refusal-end : goal.slice_bounds-keys_refusal-end
slice_bounds-keys_refusal-end c =
    let few = (categories-stored c.args.legend.now c.requires c.in-CategoricNumeric.is).0 in
    let long : length c.args.legend.now.categoric.keys ≡ 256 = search rules in
    omega (arith, length-take c.args.legend.now.categoric.count c.args.legend.now.categoric.keys)
