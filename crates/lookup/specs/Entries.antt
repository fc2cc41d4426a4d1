-- Looking up a fraction in a ramp, plainly and in lanes (docs/RULES.md, "Colours and ramps"). Definitions only.
use Rattle.std.specs.Prelude.{Option, Some, None, ℕ, cond, List, Float, get_or}
use Rattle.color.specs.Word.{word_of, transparent}
use Rattle.floats.specs.RampIndex.{in_unit, plain_index, lane_index}

-- fraction × 255 rounded to the nearest whole number, halves up; outside 0 to 1, NaN included, no entry
unfoldable pub plain_entry : Float → Option ℕ
plain_entry f = cond (in_unit f) (Some (plain_index f)) None

-- in lanes: floor(fraction × 255 + 0.5), at most 255
unfoldable pub lane_entry : Float → Option ℕ
lane_entry f = cond (in_unit f) (Some (lane_index f)) None

-- a ramp's colour of an entry; outside, TRANSPARENT
abbrev pub entry_color : List ℕ → Option ℕ → ℕ
entry_color cmap (Some k) = get_or cmap k 0
entry_color cmap None = word_of transparent
