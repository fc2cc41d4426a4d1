-- For a fraction x from 0 to 1: x * 255 lies from 0 to 255 and x * 255 + 0.5 from 0.5 to 255.5, in f32; both indexes are at most 255. Assumes nothing.
use mathlib.Core.Path.{◌≡◌, refl, subst}
use mathlib.Core.Bool.{false, not}
use Prim.Native.Nat.{◌≤◌}
use native.Mathlib.Omega.{arith}
use lib.IntN.{pos, negsuc}
use lib.Dec.{T}
use lib.Ieee.{Float, fin, binary32, add, mul, le, lt, is_nan}
use lib.Ieee.Fits.{and_i, and_l, and_r}
use lib.Ieee.Scale.{finite}
use Rattle.floats.specs.RampIndex.{floor_of, half_up, c255, one_half, plain_index, lane_index, one, nought, in_unit}
use Rattle.floats.proofs.Order.{le_le, le_lt, le_refl_float, between}
use Rattle.floats.proofs.Mono.{add_mono, mul_mono_by}
use Rattle.floats.proofs.Floors.{floor_mono, half_mono}

-- ---- closed facts
half_real : T (not (is_nan one_half))
unfolding is_nan
half_real = tt

at_nought : mul binary32 nought c255 ≡ nought
unfolding mul
at_nought = refl

at_one : mul binary32 one c255 ≡ c255
unfolding mul
at_one = refl

half_of_nought : add binary32 nought one_half ≡ one_half
unfolding add
half_of_nought = refl

-- 255.5
abbrev top : Float
top = fin false 511 (negsuc 0)

half_of_255 : add binary32 c255 one_half ≡ top
unfolding add
half_of_255 = refl

nought_to_half : T (le nought one_half)
unfolding le
nought_to_half = tt

below_256 : T (lt top (fin false 1 (pos 8)))
unfolding lt
below_256 = tt

-- ---- the bounds
pub in_unit_lem : (x : Float) → T (le nought x) → T (le x one) → T (in_unit x)
in_unit_lem x h k = and_i (le nought x) (le x one) h k

module _ (x : Float) (u : T (in_unit x)) where
  pub unit_low : T (le nought x)
  unit_low = and_l (le nought x) (le x one) u

  pub unit_high : T (le x one)
  unit_high = and_r (le nought x) (le x one) u

  pub unit_finite : T (finite x)
  unit_finite = between nought x one tt tt unit_low unit_high

  abbrev y : Float
  y = mul binary32 x c255

  pub times_low : T (le nought (mul binary32 x c255))
  times_low = subst (λ (z : Float). T (le z y)) at_nought (mul_mono_by binary32 nought x 255 (pos 0) tt unit_finite unit_low)

  pub times_high : T (le (mul binary32 x c255) c255)
  times_high = subst (λ (z : Float). T (le y z)) at_one (mul_mono_by binary32 x one 255 (pos 0) unit_finite tt unit_high)

  pub times_finite : T (finite (mul binary32 x c255))
  times_finite = between nought y c255 tt tt times_low times_high

  abbrev z : Float
  z = add binary32 y one_half

  pub plus_low : T (le one_half (add binary32 (mul binary32 x c255) one_half))
  plus_low =
      subst (λ (w : Float). T (le w z)) half_of_nought
      (add_mono binary32 nought y one_half one_half tt times_finite tt tt times_low (le_refl_float one_half half_real))

  pub plus_high : T (le (add binary32 (mul binary32 x c255) one_half) top)
  plus_high =
      subst (λ (w : Float). T (le z w)) half_of_255
      (add_mono binary32 y c255 one_half one_half times_finite tt tt tt times_high (le_refl_float one_half half_real))

  pub plus_from_0 : T (le nought (add binary32 (mul binary32 x c255) one_half))
  plus_from_0 = le_le nought one_half z nought_to_half plus_low

  pub plus_below_256 : T (lt (add binary32 (mul binary32 x c255) one_half) (fin false 1 (pos 8)))
  plus_below_256 = le_lt z top (fin false 1 (pos 8)) plus_high below_256

  pub plus_finite : T (finite (add binary32 (mul binary32 x c255) one_half))
  plus_finite = between one_half z top tt tt plus_low plus_high

  pub plus_floor : floor_of (add binary32 (mul binary32 x c255) one_half) ≤ 255
  plus_floor = floor_mono z top plus_finite tt plus_high

-- ---- the indexes
pub plain-is : (x : Float) → plain_index x ≡ half_up (mul binary32 x c255)
unfolding plain_index
plain-is x = refl

pub plain_le : (x : Float) → T (in_unit x) → plain_index x ≤ 255
unfolding plain_index
plain_le x u = half_mono (mul binary32 x c255) c255 (times_finite x u) tt (times_high x u)

pub lane-is : (x : Float) → T (in_unit x) → lane_index x ≡ floor_of (add binary32 (mul binary32 x c255) one_half)
unfolding lane_index
lane-is x u = omega (arith, plus_floor x u)

pub lane_le : (x : Float) → lane_index x ≤ 255
unfolding lane_index
lane_le x = omega arith
