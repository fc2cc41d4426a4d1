-- Hex text and palettes as C reads them. Definitions only.
use Rattle.std.specs.Prelude.{Result, replicate}
use Rattle.refusal.specs.declared.Refusal.{Refusal}
use Rattle.refusal.specs.Outcome.{answer_of, made_or}
use Rattle.color.specs.declared.Color.{Color}
use Rattle.color.specs.Hex.{hex_word}
use Rattle.palettes.specs.declared.Palette.{Palette}
use Rattle.c_answers.specs.declared.colors.LegendColor.{LegendColor}
use Rattle.c_answers.specs.declared.colors.LegendPalette.{LegendPalette}
use Rattle.c_types.specs.Answers.{answer_to_c}

abbrev pub hex_to_c : Result Color Refusal → LegendColor
hex_to_c h = record { answer = answer_to_c (answer_of h); color = hex_word h }

-- no colours beside a refusal
abbrev pub no_palette : Palette
no_palette = record { colors = replicate 12 0; count = 0 }

abbrev pub palette_to_c : Result Palette Refusal → LegendPalette
palette_to_c p = record { answer = answer_to_c (answer_of p); colors = (made_or p no_palette).colors; count = (made_or p no_palette).count }
