-- The sums of a blend fit, and its channels are bytes. Assumes nothing.
use Prim.Native.Nat.{ℕ, ◌+◌, ◌*◌, ◌-◌, ◌/◌, ◌≤◌, ◌<◌}
use native.Mathlib.Nat.{mul-le-mul_right, div-lt_iff_lt-mul}
use native.Mathlib.Omega.{arith}
use lib.Dec.{lit<}

module _ (r c d : ℕ) (R : r < 255) (C : c < 256) (D : d < 256) where
  near : c * (255 - r) ≤ 255 * (255 - r)
  near = mul-le-mul_right (255 - r) (omega arith)

  far : d * r ≤ 255 * r
  far = mul-le-mul_right r (omega arith)

  pub near_fits : c * (255 - r) < 65536
  near_fits = omega (arith, near)

  pub far_fits : d * r < 65536
  far_fits = omega (arith, far)

  pub sum_fits : c * (255 - r) + d * r + 127 < 65536
  sum_fits = omega (arith, near, far)

  pub channel_fits : (c * (255 - r) + d * r + 127) / 255 < 256
  channel_fits = (div-lt_iff_lt-mul (lit< tt)).1 (omega (arith, near, far))
