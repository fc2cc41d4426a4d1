-- Ramps that are asked for, refusals included (docs/RULES.md, "Where each call says no"). Definitions only.
use Rattle.std.specs.Prelude.{ℕ, List, ltb, length, replicate, Result}
use Rattle.refusal.specs.Outcome.{Answer, Done, refuse_if, made_unless}
use Rattle.refusal.specs.declared.Refusal.{Refusal}
use Rattle.refusal.specs.declared.Refusal.TheVariants.{TooFewColors, TooManyColors}
use Rattle.colormap.specs.declared.ProcessedColorMap.{ProcessedColorMap}
use Rattle.palettes.specs.Palettes.{palette}
use Rattle.palettes.specs.Asked.{preset_refusal}
use Rattle.colormap.specs.Spread.{spread}

abbrev pub empty_ramp : ProcessedColorMap
empty_ramp = record { cmap = replicate 256 0 }

-- 4 fewer than 2 colours; 5 more than 256
unfoldable pub list_refusal : ℕ → Answer
list_refusal count = refuse_if (ltb count 2) TooFewColors (refuse_if (ltb 256 count) TooManyColors Done)

-- the colours spread, unless they are refused
unfoldable pub spread_unless : Answer → List ℕ → Result ProcessedColorMap Refusal
spread_unless answer colors = made_unless answer (record { cmap = spread colors })

abbrev pub ramp_of_list : List ℕ → Result ProcessedColorMap Refusal
ramp_of_list colors = spread_unless (list_refusal (length colors)) colors

abbrev pub ramp_of_preset : ℕ → Result ProcessedColorMap Refusal
ramp_of_preset number = spread_unless (preset_refusal number) (palette number)
