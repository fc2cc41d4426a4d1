-- The linear rule at one sample that is mappable, plainly and in a lane (docs/RULES.md, "Linear"). Definitions only.
use Rattle.std.specs.Prelude.{Option, Some, None, ℕ, cond, List, [], map, Float}
use Rattle.std.specs.Float.{binary32}
use Rattle.std.specs.Float.Ieee.{add, sub, lt}
use Rattle.interpolate.specs.Fraction.{fraction, plain_fraction}
use Rattle.lookup.specs.Entries.{plain_entry, lane_entry}
use Rattle.colormapper.specs.declared.UnmappableColors.{UnmappableColors}
use Rattle.colormapper.specs.Rule.{Rule, ramp_entry, ramp_outside, low, high, RuleColors, rule_color}
use Rattle.colormapper.specs.Tolerance.{E}

-- below start - E the first, else above end + E the second, else the third
abbrev pub by_range : {A : Type 0} → (start end v : Float) → A → A → A → A
by_range start end v x y z = cond (lt v (sub binary32 start E)) x (cond (lt (add binary32 end E) v) y z)

-- what the fraction is looked up as
abbrev pub entry_rule : Option ℕ → Rule
entry_rule (Some k) = ramp_entry k
entry_rule None = ramp_outside

abbrev pub rule_in_range : (start end v : Float) → Option ℕ → Rule
rule_in_range start end v entry = by_range start end v low high (entry_rule entry)

unfoldable pub plain_rule : (start end v : Float) → Rule
plain_rule start end v = rule_in_range start end v (plain_entry (plain_fraction start end v))

-- in lanes it is not tested whether the start is above the end, and the entry is the lanes'
unfoldable pub lane_rule : (start end v : Float) → Rule
lane_rule start end v = rule_in_range start end v (lane_entry (fraction start end v))

-- the colours are the ramp's and those of the settings
abbrev pub linear_rule_colors : (cmap : List ℕ) → UnmappableColors → RuleColors
linear_rule_colors cmap u = record { unmappable = u; ramp = cmap; bands = []; categories = []; table = [] }

unfoldable pub plain_color : (cmap : List ℕ) (start end : Float) → UnmappableColors → Float → ℕ
plain_color cmap start end u v = rule_color (linear_rule_colors cmap u) (plain_rule start end v)

unfoldable pub lane_color : (cmap : List ℕ) (start end : Float) → UnmappableColors → Float → ℕ
lane_color cmap start end u v = rule_color (linear_rule_colors cmap u) (lane_rule start end v)

-- the lane rule of a chunk: each lane by itself
abbrev pub lane_colors : (cmap : List ℕ) (start end : Float) → UnmappableColors → List Float → List ℕ
lane_colors cmap start end u = map (lane_color cmap start end u)
