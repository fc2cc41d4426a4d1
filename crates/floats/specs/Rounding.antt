-- Rounding to a binary format b, written from IEEE 754-2019, and not from the library's algorithms. Definitions only.
-- Sizes are counted in units of 2 ^ -(places b), the least positive value. An exact result is a fraction a / c with a sign.
-- `HasValue r s n d` says that r is finite, has the sign s, and is n / d in size.
use Rattle.std.specs.Prelude.{◌≡◌, ◌⊎◌, ℕ, ◌+◌, ◌-◌, ◌*◌, ◌%◌, ◌^◌, ◌≤◌, ◌<◌, Bool, Float}
use Rattle.std.specs.Float.{inf}
use Rattle.std.specs.Float.Ieee.Exact.{HasValue}
use Rattle.floats.specs.Formats.{Binary, places, span}

-- 3.3: a finite datum is digits * 2 ^ power units, with at most p digits, and with the exponents from emin to emax
pub record Datum (b : Binary) (n : ℕ) : Type 0 where
  pub digits : ℕ
  pub power : ℕ
  pub short : digits < 2 ^ b.p
  pub low : power ≤ span b
  pub is : n ≡ digits * 2 ^ power

-- 3.3: its significand of p digits, fewer only at the least exponent, has an even last digit
pub record Even (b : Binary) (n : ℕ) : Type 0 where
  pub digits : ℕ
  pub power : ℕ
  pub full : (2 ^ (b.p - 1) ≤ digits) ⊎ (power ≡ 0)
  pub short : digits < 2 ^ b.p
  pub is : n ≡ digits * 2 ^ power
  pub even : digits % 2 ≡ 0

-- how far a / c lies from n units, times 2 ^ places * c
abbrev pub far : Binary → ℕ → ℕ → ℕ → ℕ
far b a c n = a * 2 ^ places b - n * c + (n * c - a * 2 ^ places b)

-- 4.3.1, roundTiesToEven: r is the datum nearest to a / c, with the sign s, and where two are as near, the even one
pub record Nearest (b : Binary) (s : Bool) (a c : ℕ) (r : Float) : Type 0 where
  pub n : ℕ
  pub value : HasValue r s n (2 ^ places b)
  pub datum : Datum b n
  pub nearest : (m : ℕ) → Datum b m → far b a c n ≤ far b a c m
  pub tie : (m : ℕ) → Datum b m → far b a c n ≡ far b a c m → (n ≡ m) ⊎ Even b n

-- 4.3.1: the overflow threshold 2 ^ emax * (2 - 2 ^ -p), times 2 ^ p
abbrev pub limit : Binary → ℕ
limit b = 2 ^ b.emax * (2 * 2 ^ b.p - 1)

-- r is what a / c, with the sign s, rounds to: the nearest datum below the threshold, and from there on an infinity
pub record Rounds (b : Binary) (s : Bool) (a c : ℕ) (r : Float) : Type 0 where
  pub under : a * 2 ^ b.p < limit b * c → Nearest b s a c r
  pub over : limit b * c ≤ a * 2 ^ b.p → r ≡ inf s
