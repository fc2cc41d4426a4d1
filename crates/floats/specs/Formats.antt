-- Binary formats by their parameters, written from IEEE 754-2019, 3.3 and table 3.5. Definitions only.
use Rattle.std.specs.Prelude.{ℕ, ◌+◌, ◌-◌, ◌*◌}
use Rattle.std.specs.Float.{Format}
use Rattle.std.specs.Float.Ieee.{prec, emax}

-- 3.3: p is the number of digits of a significand, the precision; emax is the largest exponent, and the least is emin = 1 - emax
pub record Binary : Type 0 where
  pub p : ℕ
  pub emax : ℕ

-- table 3.5
abbrev pub binary32 : Binary
binary32 = record { p = 24; emax = 127 }

abbrev pub binary64 : Binary
binary64 = record { p = 53; emax = 1023 }

-- 3.3: a finite datum is a whole number below 2 ^ p times 2 ^ q, with emin ≤ q + p - 1 ≤ emax. So the least q is emin - (p - 1) = -(emax + p - 2).
-- The unit is 2 ^ q at that q, the least positive value: it has this many binary places
abbrev pub places : Binary → ℕ
places b = b.emax + b.p - 2

-- and the largest q lies emax - emin above the least
abbrev pub span : Binary → ℕ
span b = 2 * b.emax - 1

-- the parameters that the language's semantics has for f32 and f64. That they are those of table 3.5 is said in proofs/FormatsLaw.antt
abbrev pub parameters : Format → Binary
parameters f = record { p = prec f; emax = emax f }
