-- A form of the code: the rule's colours by what a legend is looked up by, whose ramp is lent. Each is the definition of Rule.antt at its fields. Definitions only.
use Rattle.std.specs.Prelude.{ℕ, Float}
use Rattle.linear_rule.specs.Rule.{by_range, plain_color, lane_color}
use Rattle.linear_rule.specs.declared.LinearRule.{LinearRule}

abbrev pub plain_color_by : LinearRule → Float → ℕ
plain_color_by r = plain_color r.cmap.now r.start r.end r.colors

abbrev pub lane_color_by : LinearRule → Float → ℕ
lane_color_by r = lane_color r.cmap.now r.start r.end r.colors

-- low and high out of range, else a colour that was looked up
abbrev pub color_in_range : LinearRule → (v : Float) → ℕ → ℕ
color_in_range r v color = by_range r.start r.end v r.colors.low r.colors.high color
