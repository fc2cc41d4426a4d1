-- A list of colours spread over the 256 entries of a ramp, in whole numbers (docs/RULES.md, "Colours and ramps"). Definitions only.
use Rattle.std.specs.Prelude.{ℕ, ◌+◌, ◌*◌, ◌-◌, ◌/◌, ◌%◌, cond, List, eqb, length, get_or}
use Rattle.color.specs.declared.Color.{Color}
use Rattle.color.specs.Word.{word_of, color_of}
use Rattle.lists.specs.Tabulate.{tabulate}

unfoldable pub channel : (r c d : ℕ) → ℕ
channel r c d = (c * (255 - r) + d * r + 127) / 255

-- each channel, alpha too
unfoldable pub blend : (r : ℕ) (x y : Color) → Color
blend r x y = record { r = channel r x.r y.r; g = channel r x.g y.g; b = channel r x.b y.b; a = channel r x.a y.a }

-- entry i: t = i × (n - 1), k = t div 255, r = t mod 255; between colours k and k + 1, and colour k itself where r = 0
unfoldable pub spread_at : List ℕ → ℕ → ℕ
spread_at colors i =
    let t = i * (length colors - 1) in
    cond (eqb (t % 255) 0) (get_or colors (t / 255) 0) (word_of (blend (t % 255) (color_of (get_or colors (t / 255) 0)) (color_of (get_or colors (t / 255 + 1) 0))))

unfoldable pub spread : List ℕ → List ℕ
spread colors = tabulate 256 (spread_at colors)
