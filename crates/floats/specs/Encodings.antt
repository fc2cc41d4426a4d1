-- The bit strings of a binary format b, written from IEEE 754-2019, 3.4. Definitions only.
-- A string is a sign S, a biased exponent E of w bits and a trailing significand T of p - 1 bits. The bias is emax = 2 ^ (w - 1) - 1.
use Rattle.std.specs.Prelude.{◌≡◌, ◌≢◌, ℕ, zero, suc, ◌+◌, ◌-◌, ◌*◌, ◌^◌, ◌≤◌, ◌<◌, Bool, cond, Float}
use Rattle.std.specs.Float.{nan, inf, fin}
use Rattle.std.specs.Float.Ieee.Exact.{HasValue}
use Rattle.floats.specs.Formats.{Binary, places}

-- the largest E, whose bits are all ones: 2 ^ w - 1
abbrev pub ones : Binary → ℕ
ones b = 2 * b.emax + 1

-- 3.4 c, d: from E = 1 on a one leads the digits of T, and at E = 0 a zero
abbrev pub significand : Binary → ℕ → ℕ → ℕ
significand b zero T = T
significand b (suc E) T = 2 ^ (b.p - 1) + T

-- what S, E and T stand for. 3.4 a: a NaN. b: an infinity.
-- c: 2 ^ (E - emax) * (1 + 2 ^ (1 - p) * T), in units (2 ^ (p - 1) + T) * 2 ^ (E - 1). d, e: 2 ^ emin * (0 + 2 ^ (1 - p) * T), in units T
abbrev pub StandsFor : Binary → Bool → ℕ → ℕ → Float → Type 0
StandsFor b S E T nan = (E ≡ ones b) × (T ≢ 0)
StandsFor b S E T (inf s) = (E ≡ ones b) × (T ≡ 0) × (s ≡ S)
StandsFor b S E T (fin s m e) = (E < ones b) × HasValue (fin s m e) S (significand b E T * 2 ^ (E - 1)) (2 ^ places b)

-- n, as a number, is a bit string of x
pub record Encodes (b : Binary) (n : ℕ) (x : Float) : Type 0 where
  pub sign : Bool
  pub exponent : ℕ
  pub trailing : ℕ
  pub low : exponent ≤ ones b
  pub short : trailing < 2 ^ (b.p - 1)
  pub is : n ≡ (cond sign 1 0 * suc (ones b) + exponent) * 2 ^ (b.p - 1) + trailing
  pub value : StandsFor b sign exponent trailing x
