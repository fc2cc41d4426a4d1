-- `keys_range` meets its contract. Assumes nothing.
use mathlib.Core.Path.{sym, ap₂, subst, ◌∙◌}
use native.Mathlib.Omega.{arith}
use Prim.Native.Nat.{◌<◌}
use lib.Dec.{T}
use lib.Ieee.{binary32, of_int, in_float}
use lib.ListN.{length}
use mir.Syntax.{w64}
use mir.Val.{to_z, of_z}
use Rattle.categoric_build.specs.Table.{smallest, largest}
use Rattle.legend_range.specs.ValueRanges.{from_to}
use Rattle.legend_range.proofs.Ranging.{keys-from_to, smallest-inside, largest-inside, same, fits}
use Rattle.legend_range.proofs.keys_range.Goals as goal

pub int_to_float-result : goal.int_to_float-result
int_to_float-result c =
    let keys = c.args.keys.now in
    let some : 0 < length keys = grind arith in
    subst (λ z. T (in_float binary32 (to_z w64 (of_z w64 z)))) (sym c.smallest.ensures) (fits (smallest keys) (smallest-inside keys c.requires some))

pub int_to_float-result-2 : goal.int_to_float-result-2
int_to_float-result-2 c =
    let keys = c.args.keys.now in
    let some : 0 < length keys = grind arith in
    subst (λ z. T (in_float binary32 (to_z w64 (of_z w64 z)))) (sym c.largest.ensures) (fits (largest keys) (largest-inside keys c.requires some))

pub returns : goal.returns
returns c =
    let keys = c.args.keys.now in
    let some : 0 < length keys = grind arith in
    ap₂ (λ x y. from_to (of_int binary32 (to_z w64 (of_z w64 x))) (of_int binary32 (to_z w64 (of_z w64 y)))) c.smallest.ensures c.largest.ensures
    ∙ ap₂ (λ x y. from_to (of_int binary32 x) (of_int binary32 y)) (same (smallest keys) (smallest-inside keys c.requires some))
    (same (largest keys) (largest-inside keys c.requires some))
    ∙ keys-from_to keys some
