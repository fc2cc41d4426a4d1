-- How a categoric legend looks up a sample without a table, and as stored, with one or without, and the colour that this gives (docs/RULES.md, "Categoric" and
-- "Painting"). Definitions only.
use Rattle.std.specs.Prelude.{Option, Some, None, ℕ, zero, suc, Bool, false, cond, List, [], eqb, ltb, ℤ, pos, negsuc, Float, get_or}
use Rattle.cast.specs.Truncated.{truncated}
use Rattle.colormapper.specs.Rule.{Rule, category, unknown, rule_color}
use Rattle.categoric_table.specs.Rule.{table_rule, categoric_rule_colors}

-- two keys are the same whole number
abbrev pub eq_z : ℤ → ℤ → Bool
eq_z (pos a) (pos b) = eqb a b
eq_z (pos a) (negsuc b) = false
eq_z (negsuc a) (pos b) = false
eq_z (negsuc a) (negsuc b) = eqb a b

-- the first entry with the key z, of n entries from entry k on
unfoldable pub first_key : (keys : List ℤ) (z : ℤ) (k n : ℕ) → Rule
first_key keys z k zero = unknown
first_key keys z k (suc n) = cond (eq_z (get_or keys k (pos 0)) z) (category k) (first_key keys z (suc k) n)

-- without a table: the first entry with the key, of those counted
unfoldable pub key_rule : (keys : List ℤ) (count : ℕ) → Option ℤ → Rule
key_rule keys count (Some z) = first_key keys z 0 count
key_rule keys count None = unknown

-- a record as stored: its table if it has one (a size above 0), else its keys
unfoldable pub plain_rule : (keys : List ℤ) (count size : ℕ) → Float → Rule
plain_rule keys count size v = cond (ltb 0 size) (table_rule size (truncated v)) (key_rule keys count (truncated v))

unfoldable pub plain_color : (keys : List ℤ) (colors : List ℕ) (count : ℕ) (lookup : List ℕ) (size nodata : ℕ) → Float → ℕ
plain_color keys colors count lookup size nodata v = rule_color (categoric_rule_colors lookup colors nodata) (plain_rule keys count size v)

-- by the keys alone, which look at no word
unfoldable pub key_color : (keys : List ℤ) (colors : List ℕ) (count nodata : ℕ) → Float → ℕ
key_color keys colors count nodata v = rule_color (categoric_rule_colors [] colors nodata) (key_rule keys count (truncated v))
