-- A linear record that is asked for, refusals included (docs/RULES.md, "Where each call says no"), and its colours out of range. Definitions only.
use Rattle.std.specs.Prelude.{Result, ℕ, List, Float, length, replicate}
use Rattle.refusal.specs.Outcome.{Answer, Done, refuse_if, if_done, made_unless}
use Rattle.std.specs.Float.Ieee.{lt}
use Rattle.floats.specs.RampIndex.{nought, one}
use Rattle.refusal.specs.declared.Refusal.{Refusal}
use Rattle.refusal.specs.declared.Refusal.TheVariants.{StartAboveEnd}
use Rattle.colormap.specs.Made.{list_refusal}
use Rattle.colormap.specs.Spread.{spread}
use Rattle.lookup.specs.Entries.{plain_entry, entry_color}
use Rattle.colormapper.specs.declared.MappingConfig.{MappingConfig}
use Rattle.colormapper.specs.declared.UnmappableColors.{UnmappableColors}
use Rattle.colormapper.specs.Settings.{unmappable_colors}
use Rattle.linear.specs.declared.Linear.{Linear}

abbrev pub empty_linear : Linear
empty_linear = record { start = nought; end = nought; cmap = replicate 256 0 }

-- 7 start > end; a NaN bound is above nothing
unfoldable pub range_refusal : (start end : Float) → Answer
range_refusal start end = refuse_if (lt end start) StartAboveEnd Done

-- the range with its ramp, unless it is refused
unfoldable pub linear_unless : Answer → (start end : Float) (cmap : List ℕ) → Result Linear Refusal
linear_unless answer start end cmap = made_unless answer (record { start = start; end = end; cmap = cmap })

abbrev pub linear_of_ramp : (start end : Float) (cmap : List ℕ) → Result Linear Refusal
linear_of_ramp start end cmap = linear_unless (range_refusal start end) start end cmap

-- from a list 4, 5; then 7
abbrev pub list_then_range : ℕ → (start end : Float) → Answer
list_then_range count start end = if_done (list_refusal count) (range_refusal start end) (list_refusal count)

abbrev pub linear_of_list : (start end : Float) (colors : List ℕ) → Result Linear Refusal
linear_of_list start end colors = linear_unless (list_then_range (length colors) start end) start end (spread colors)

-- absent low and high: the ramp at 0 and at 1
unfoldable pub linear_colors : (cmap : List ℕ) → MappingConfig → UnmappableColors
linear_colors cmap config = unmappable_colors config (entry_color cmap (plain_entry nought)) (entry_color cmap (plain_entry one))
