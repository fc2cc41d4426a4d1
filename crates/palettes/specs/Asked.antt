-- A palette that is asked for, refused or not (docs/RULES.md, "Where each call says no"). Definitions only.
use Rattle.std.specs.Prelude.{ℕ, ltb, length, Result}
use Rattle.refusal.specs.Outcome.{Answer, Done, refuse_if, made_unless}
use Rattle.refusal.specs.declared.Refusal.{Refusal}
use Rattle.refusal.specs.declared.Refusal.TheVariants.{NoSuchPalette}
use Rattle.lists.specs.Padded.{padded}
use Rattle.palettes.specs.declared.Palette.{Palette}
use Rattle.palettes.specs.Palettes.{palette}

-- 6 number above 31
unfoldable pub preset_refusal : ℕ → Answer
preset_refusal number = refuse_if (ltb 31 number) NoSuchPalette Done

-- a palette's colours, then zeros
unfoldable pub palette_of : ℕ → Result Palette Refusal
palette_of number = made_unless (preset_refusal number) (record { colors = padded 0 12 (palette number); count = length (palette number) })
