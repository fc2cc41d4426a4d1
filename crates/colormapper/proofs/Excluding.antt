-- The painters' test of a sample is the rule: a NaN is what differs from itself, and nothing equals a NaN. Assumes nothing.
use Rattle.std.specs.Prelude.{Option, Some, None}
use mathlib.Core.Path.{◌≡◌, refl, ap, ap₂, ◌∙◌}
use mathlib.Core.Bool.{Bool, true, false, not, cond, ◌&&◌, ◌||◌}
use lib.Dec.{T}
use lib.IntN.{ℤ}
use Prim.Native.Nat.{ℕ}
use lib.Ieee.{Float, nan, inf, fin, eq, ne, is_nan}
use lib.Ieee.Bits.{is_true}
use Rattle.floats.specs.RampIndex.{nought}
use Rattle.floats.proofs.Order.{eq_refl_float}
use Rattle.colormapper.specs.Unmappable.{is_nodata, unmappable}
use Rattle.colormapper.specs.forms.Exclusions.{value_or_nan, exclusions_of, excluded}

same : (x : Float) → T (not (is_nan x)) → not (eq x x) ≡ false
same x n = ap not (is_true (eq x x) (eq_refl_float x n))

pub differs : (x : Float) → ne x x ≡ is_nan x
unfolding ne is_nan
differs nan = unfold eq in refl
differs (inf s) = same (inf s) tt
differs (fin s m e) = same (fin s m e) tt

pub none_equals : (x : Float) → eq x nan ≡ false
unfolding eq
none_equals nan = refl
none_equals (inf s) = refl
none_equals (fin s m e) = refl

by_value : (nodata : (Option Float)) (v : Float) → eq v (value_or_nan nodata) ≡ is_nodata nodata v
by_value (Some x) v = refl
by_value None v = none_equals v

by_zero : (flag : Bool) (v : Float) → eq v (cond flag nought nan) ≡ (flag && eq v nought)
by_zero true v = refl
by_zero false v = none_equals v

pub excluded-is : (nodata : (Option Float)) (flag : Bool) (v : Float) → excluded (exclusions_of nodata flag) v ≡ unmappable nodata flag v
unfolding excluded unmappable
excluded-is nodata flag v = ap₂ (λ a b. (is_nan v || a) || b) (by_value nodata v) (by_zero flag v)
