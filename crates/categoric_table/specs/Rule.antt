-- What a categoric legend's look-up finds and the colour that this gives; with a table, how a sample is looked up (docs/RULES.md, "Categoric" and "Painting").
-- Definitions only.
use Rattle.std.specs.Prelude.{ℤ, Option, Some, None, ℕ, cond, List, [], map, ltb, pos, negsuc, Float}
use Rattle.colormapper.specs.Rule.{Rule, word, unknown, RuleColors, rule_color}
use Rattle.cast.specs.Truncated.{truncated}

-- with a table of `size` words: the word with the number that the sample is truncated to; outside the table, none
unfoldable pub table_rule : (size : ℕ) → Option ℤ → Rule
table_rule size (Some (pos n)) = cond (ltb n size) (word n) unknown
table_rule size (Some (negsuc n)) = unknown
table_rule size None = unknown

-- the colours are the table's words, the entries' and nodata
abbrev pub categoric_rule_colors : (lookup colors : List ℕ) (nodata : ℕ) → RuleColors
categoric_rule_colors lookup colors nodata =
    record { unmappable = record { nodata = nodata; low = nodata; high = nodata }; ramp = []; bands = []; categories = colors; table = lookup }

-- by the table alone, which looks at no entry
unfoldable pub table_color : (lookup : List ℕ) (size nodata : ℕ) → Float → ℕ
table_color lookup size nodata v = rule_color (categoric_rule_colors lookup [] nodata) (table_rule size (truncated v))

-- a chunk of a legend with a table: each lane is looked up in it. Without one a legend is painted plainly
abbrev pub lane_colors : (lookup : List ℕ) (size nodata : ℕ) → List Float → List ℕ
lane_colors lookup size nodata vs = map (table_color lookup size nodata) vs
