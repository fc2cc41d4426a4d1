-- Unmappable samples become nodata, last of all (docs/RULES.md, "Samples and settings" and "Banded"). Definitions only.
use Rattle.refusal.specs.Outcome.{Answer}
use Rattle.std.specs.Prelude.{ℕ, Bool, cond, List, [], ◌∷◌, Float}
use Rattle.painting.specs.Paintings.{Painter}

-- the lanes of a chunk, with their colours
unfoldable pub masked : (unmappable : Float → Bool) (nodata : ℕ) → List Float → List ℕ → List ℕ
masked unmappable nodata [] colors = []
masked unmappable nodata (v ∷ vs) [] = []
masked unmappable nodata (v ∷ vs) (c ∷ colors) = cond (unmappable v) nodata c ∷ masked unmappable nodata vs colors

-- one sample
abbrev pub masked_color : (unmappable : Float → Bool) (nodata : ℕ) (rule : Float → ℕ) → Float → ℕ
masked_color unmappable nodata rule v = cond (unmappable v) nodata (rule v)

-- a legend for painting, by its kind's two rules for mappable samples
abbrev pub painter_of : (stored : Answer) (simd : Bool) (unmappable : Float → Bool) (nodata : ℕ) (plain_color : Float → ℕ) (lane_colors : List Float → List ℕ)
    → Painter
painter_of stored simd unmappable nodata plain_color lane_colors =
    record { stored = stored; simd = simd; plain = masked_color unmappable nodata plain_color; chunk = λ vs. masked unmappable nodata vs (lane_colors vs) }
