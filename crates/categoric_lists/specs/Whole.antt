-- A whole number as a count or an index (docs/RULES.md, "Categoric"). Definitions only.
use Rattle.std.specs.Prelude.{ℕ, ℤ, pos, negsuc}

-- none below 0
abbrev pub whole : ℤ → ℕ
whole (pos n) = n
whole (negsuc n) = 0
