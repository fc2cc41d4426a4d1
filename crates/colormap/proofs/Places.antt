-- The colours that entry i of a ramp lies between, of a list of n: their places. Assumes nothing.
use Prim.Native.Nat.{ℕ, ◌+◌, ◌*◌, ◌-◌, ◌/◌, ◌%◌, ◌≤◌, ◌<◌}
use native.Mathlib.Nat.{mul-le-mul_right}
use native.Mathlib.Omega.{arith}

module _ (i n : ℕ) (two : 2 ≤ n) (few : n ≤ 256) (I : i < 256) where
  scaled : i * (n - 1) ≤ 255 * (n - 1)
  scaled = mul-le-mul_right (n - 1) (omega arith)

  pub product_fits : i * (n - 1) < 65536
  product_fits = omega (arith, scaled)

  pub place_lt : i * (n - 1) / 255 < n
  place_lt = omega (arith, scaled)

  pub next_lt : 0 < i * (n - 1) % 255 → i * (n - 1) / 255 + 1 < n
  next_lt h = omega (arith, scaled)
