-- A colour and its word (docs/RULES.md, "Colours and ramps"). Definitions only.
use Rattle.std.specs.Prelude.{ℕ, ◌+◌, ◌*◌, ◌/◌, ◌%◌, ◌<◌}
use Rattle.color.specs.declared.Color.{Color}

abbrev pub transparent : Color
transparent = record { r = 0; g = 0; b = 0; a = 0 }

-- the word of a colour
abbrev pub word_of : Color → ℕ
word_of c = c.r + 256 * c.g + 65536 * c.b + 16777216 * c.a

-- the colour of a word: its bytes, lowest first
unfoldable pub color_of : ℕ → Color
color_of w =
    record { r = w % 256; g = w / 256 % 256; b = w / 65536 % 256; a = w / 16777216 % 256 }

-- each channel is a byte
pub record Bytes (c : Color) : Type 0 where
  pub r : c.r < 256
  pub g : c.g < 256
  pub b : c.b < 256
  pub a : c.a < 256
