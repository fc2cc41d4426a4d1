-- Painting by the search among narrowed keys is painting by the keys. Assumes nothing.
use mathlib.Core.Bool.{cond}
use mathlib.Core.List.{List, map_congr_left}
use mathlib.Core.Path.{◌≡◌, ap}
use Prim.Native.Nat.{ℕ}
use lib.Ieee.{Float}
use lib.IntN.{ℤ}
use Rattle.colormapper.specs.forms.Exclusions.{excluded}
use Rattle.categoric_search.specs.forms.Narrow.{Narrow}
use Rattle.categoric_search.proofs.Sought.{sample_color}
use Rattle.painting.specs.Painted.{plain_painted}
use Rattle.categoric_paint.specs.declared.CategoricPaint.{CategoricPaint}
use Rattle.categoric_paint.specs.forms.KeySamples.{key_sample, search_sample}

module _ {keys narrow : List ℤ} {count : ℕ} (colors : List ℕ) (p : CategoricPaint) (src : List Float) (n : Narrow keys count narrow) where
  pub searched-is : plain_painted (search_sample narrow colors p) src ≡ plain_painted (key_sample keys colors count p) src
  searched-is =
      map_congr_left {f = search_sample narrow colors p} {g = key_sample keys colors count p} {l = src}
      (λ v m. ap (cond (excluded p.exclusions v) p.nodata) (sample_color keys count narrow n colors p.nodata v))
