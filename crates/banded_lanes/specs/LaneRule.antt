-- The lane rule of a banded legend (docs/RULES.md, "Banded"), over a chunk's values. Definitions only.
use Rattle.std.specs.Prelude.{ℕ, Bool, true, false, cond, ◌&&◌, List, [], ◌∷◌, map, Float}
use Rattle.colormapper.specs.declared.UnmappableColors.{UnmappableColors}
use Rattle.banded_columns.specs.declared.LegendBand.{LegendBand}
use Rattle.banded_columns.specs.Band.{holds, last_of}
use Rattle.banded_lanes.specs.Edges.{Lane, edged}

-- lanes start as nodata
abbrev pub started : (nodata : ℕ) → Float → Lane
started nodata v = record { value = v; inside = false; color = nodata }

-- a band overwrites the lanes that it holds
abbrev pub over : LegendBand → Lane → Lane
over b l = cond (holds b l.value) (record { value = l.value; inside = true; color = b.color }) l

abbrev pub all_inside : List Lane → Bool
all_inside [] = true
all_inside (l ∷ ls) = l.inside && all_inside ls

-- a chunk after the bands: whether some band finished it, and its lanes there
pub record Sweep : Type 0 where
  pub finished : Bool
  pub lanes : List Lane

-- every band in order, until each lane of the chunk lies in some band: the chunk is finished there
unfoldable pub swept : List LegendBand → List Lane → Sweep
swept [] lanes = record { finished = false; lanes = lanes }
swept (b ∷ bs) lanes = cond (all_inside (map (over b) lanes)) (record { finished = true; lanes = map (over b) lanes }) (swept bs (map (over b) lanes))

-- a chunk that no band finished takes the colours of the edges
unfoldable pub chunk_colors : (edge : Lane → ℕ) → Sweep → List ℕ
chunk_colors edge s = cond s.finished (map (λ (l : Lane). l.color) s.lanes) (map edge s.lanes)

-- no bands: nodata
unfoldable pub lane_colors : List LegendBand → UnmappableColors → List Float → List ℕ
lane_colors [] u vs = map (λ (v : Float). u.nodata) vs
lane_colors (b ∷ bs) u vs = chunk_colors (edged u b (last_of b bs)) (swept (b ∷ bs) (map (started u.nodata) vs))
