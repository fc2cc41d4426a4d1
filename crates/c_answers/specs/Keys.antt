-- A truncated sample as C reads it. Definitions only.
use Rattle.std.specs.Prelude.{ℤ, Option, Some, None, pos}
use Rattle.c_answers.specs.declared.keys.LegendKey.{LegendKey}

abbrev pub key_to_c : Option ℤ → LegendKey
key_to_c (Some k) = record { key = k; whole = 1 }
key_to_c None = record { key = pos 0; whole = 0 }
