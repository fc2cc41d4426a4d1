-- `get_color` meets its contract. Assumes nothing.
use mathlib.Core.Path.{ap₂, sym, ap, ◌∙◌}
use mathlib.Core.Bool.{cond}
use Rattle.floats.specs.RampIndex.{plain_index}
use native.Mathlib.Omega.{arith}
use Prim.Native.Nat.{◌<◌}
use lib.ListN.{get_or}
use Rattle.lookup.proofs.Lookups.{holds, plain_chosen}
use Rattle.floats.proofs.RampBounds.{times_low, times_high, plain-is, plain_le}
use lib.Ieee.{of_bits}
use Rattle.lookup.proofs.get_color.Goals as goal
use Rattle.lookup.proofs.get_color.Goals.{After-nearest-index}

pub nearest-index-requires : goal.nearest-index-requires
unfolding of_bits
nearest-index-requires c = let h = holds c.unit_or_zero.ensures.1 in record { from_zero = times_low _ h; up_to_255 = times_high _ h }

index-lt : (c : After-nearest-index) → c.nearest-index.result < 256
unfolding of_bits
index-lt c =
    let h = holds c.unit_or_zero.ensures.1 in
    omega (arith, c.nearest-index.ensures ∙ sym (plain-is c.unit_or_zero.result), plain_le c.unit_or_zero.result h)

pub offset_bounds-cmap-index : goal.offset_bounds-cmap-index
offset_bounds-cmap-index c = omega (arith, index-lt c.before)

pub bounds-cmap-index : goal.bounds-cmap-index
bounds-cmap-index c = index-lt c.before.before.before

pub returns : goal.returns
unfolding of_bits
returns c =
    let e = c.nearest-index.ensures ∙ sym (plain-is c.unit_or_zero.result) ∙ ap plain_index c.unit_or_zero.ensures.0 in
    c.pick.ensures
    ∙ ap (cond c.in_unit.result _) c.to_bits-transparent.ensures
    ∙ ap₂ (λ b k. cond b (get_or c.args.cmap.now k 0) 0) c.in_unit.ensures e
    ∙ plain_chosen c.args.fraction c.args.cmap.now
