-- A form of the code: the index of the one band that can hold a sample, found by counting. That it gives `plain_color` is proofs/OneBand.antt
-- (plain_at_index), and the lane rule's scan proofs/ScanByIndices.antt (scan_at_indices). Definitions only.
use Rattle.std.specs.Prelude.{ℕ, zero, suc, ◌+◌, ◌<◌, Bool, cond, ◌&&◌, List, Float, get_or}
use Rattle.std.specs.Float.{nan}
use Rattle.std.specs.Float.Ieee.{lt, le}
use Rattle.lists.specs.Lanes.{LanesOf}

-- how many of the counted starts, from the second on, are not above the sample
unfoldable pub band_index : (starts : List Float) (count : ℕ) → Float → ℕ
band_index starts zero v = 0
band_index starts (suc zero) v = 0
band_index starts (suc (suc n)) v = band_index starts (suc n) v + cond (le (get_or starts (suc n) nan) v) 1 0

-- the band at an index holds the sample
abbrev pub held_at : (starts ends : List Float) (index : ℕ) → Float → Bool
held_at starts ends index v = le (get_or starts index nan) v && lt v (get_or ends index nan)

-- the colour of the band at an index where it holds the sample, else another
abbrev pub color_at : (starts ends : List Float) (colors : List ℕ) (index : ℕ) → Float → (otherwise : ℕ) → ℕ
color_at starts ends colors index v otherwise = cond (held_at starts ends index v) (get_or colors index 0) otherwise

-- each lane has an index in the arrays
abbrev pub IndicesInBounds : (lanes : ℕ) (indices : List ℕ) → Type 0
IndicesInBounds lanes indices = (k : ℕ) → k < lanes → get_or indices k 0 < 64

-- each of the first lanes has its sample's index, and the others 0
pub record BandIndices (lanes : ℕ) (starts : List Float) (count : ℕ) (value : List Float) (indices : List ℕ) : Type 0 where
  pub counted : LanesOf 0 lanes (λ k. band_index starts count (get_or value k nan)) indices
  pub in_arrays : IndicesInBounds lanes indices
