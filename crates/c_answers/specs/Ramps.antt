-- A ramp that is asked for, as C reads it. Definitions only.
use Rattle.std.specs.Prelude.{Result}
use Rattle.refusal.specs.declared.Refusal.{Refusal}
use Rattle.refusal.specs.Outcome.{answer_of, made_or}
use Rattle.colormap.specs.declared.ProcessedColorMap.{ProcessedColorMap}
use Rattle.colormap.specs.Made.{empty_ramp}
use Rattle.c_answers.specs.declared.ramps.LegendRamp.{LegendRamp}
use Rattle.c_types.specs.Answers.{answer_to_c}

-- TRANSPARENT throughout beside a refusal
abbrev pub ramp_to_c : Result ProcessedColorMap Refusal → LegendRamp
ramp_to_c m = record { answer = answer_to_c (answer_of m); colors = (made_or m empty_ramp).cmap }
