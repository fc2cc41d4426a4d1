-- `LinearRule::color_for_numeric_value_simd` meets its contract, phase by phase in each lane: what is looked up are the fractions. Assumes nothing.
use mathlib.Core.Path.{◌≡◌, subst}
use mathlib.Core.List.{List}
use Prim.Native.Nat.{ℕ}
use native.Mathlib.Omega.{arith}
use lib.Ieee.{Float}
use Rattle.lists.specs.Lanes.{LanesOf}
use Rattle.linear_rule.proofs.Choosing.{lane-lanes}
use Rattle.linear_rule.proofs.LinearRule.color_for_numeric_value_simd.Goals as goal

same_lanes : {z : Float} {l : ℕ} {f : ℕ → Float} {r s : List Float} → LanesOf z l f r → r ≡ s → LanesOf z l f s
same_lanes {z} {l} {f} e same = subst (LanesOf z l f) same e

pub returns : goal.returns
returns g c =
    lane-lanes _ _ _ _ c.args.value c.in_ranges.ensures (same_lanes c.linear_map_to_float_simd-fraction.ensures (grind arith)) c.get_color_simd-color.ensures
