-- A form of the code: the lane rule's scan as it stands in arrays. That the colours which follow are `lane_colors` is proofs/LaneEdges.antt (settled_none,
-- settled_finished, settled_edges). Definitions only.
use Rattle.std.specs.Prelude.{ℕ, zero, suc, Bool, true, ◌&&◌, ◌≡◌, List, map, Float, take}
use Rattle.lists.specs.Padded.{padded}
use Rattle.banded_columns.specs.declared.LegendBand.{LegendBand}
use Rattle.banded_lanes.specs.declared.Scan.{Scan}
use Rattle.banded_lanes.specs.Edges.{Lane}
use Rattle.banded_lanes.specs.LaneRule.{started, swept}

-- each number below n passes a test
unfoldable pub all_below : ℕ → (ℕ → Bool) → Bool
all_below zero f = true
all_below (suc n) f = all_below n f && f n

-- a scan has what the bands make of the chunk's values: the colours of the first n lanes, and 0 in the others
pub record Scanned (n : ℕ) (bands : List LegendBand) (nodata : ℕ) (value : List Float) (scan : Scan) : Type 0 where
  pub finished : scan.finished ≡ (swept bands (map (started nodata) (take n value))).finished
  pub colors : scan.colors ≡ padded 0 16 (map (λ (l : Lane). l.color) (swept bands (map (started nodata) (take n value))).lanes)
