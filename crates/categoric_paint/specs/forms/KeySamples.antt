-- A form of the code: the colour of a sample by keys, by what the painter is handed. That this is the legend's plain rule is legend_paint/proofs/Same.antt
-- (key_sample_lem). Definitions only.
use Rattle.std.specs.Prelude.{ℕ, List, ℤ, Float}
use Rattle.colormapper.specs.forms.Exclusions.{excluded}
use Rattle.painting.specs.Masked.{masked_color}
use Rattle.categoric_keys.specs.Rule.{key_color}
use Rattle.categoric_search.specs.forms.Bisection.{search_color}
use Rattle.categoric_paint.specs.declared.CategoricPaint.{CategoricPaint}

abbrev pub key_sample : (keys : List ℤ) (colors : List ℕ) (count : ℕ) → CategoricPaint → Float → ℕ
key_sample keys colors count p = masked_color (excluded p.exclusions) p.nodata (key_color keys colors count p.nodata)

-- by the search among 256 numbers, whatever they are
abbrev pub search_sample : (narrow : List ℤ) (colors : List ℕ) → CategoricPaint → Float → ℕ
search_sample narrow colors p = masked_color (excluded p.exclusions) p.nodata (search_color narrow colors p.nodata)
