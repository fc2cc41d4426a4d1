-- The list of a legend's colours over its whole range (docs/RULES.md, "Painting"). Definitions only.
use Rattle.std.specs.Prelude.{None, ℕ, List, map, pos, Float, Result}
use Rattle.std.specs.Float.{binary32}
use Rattle.std.specs.Float.Ieee.{add, sub, mul, div, of_int}
use Rattle.lists.specs.Tabulate.{tabulate}
use Rattle.refusal.specs.declared.Refusal.{Refusal}
use Rattle.refusal.specs.Outcome.{made_unless}
use Rattle.banded_lists.specs.declared.ValueRange.{ValueRange}
use Rattle.legend.specs.declared.Legend.{Legend}
use Rattle.legend.specs.Painters.{painter}
use Rattle.legend_range.specs.ValueRanges.{range_in, total_range_refusal}

-- the value at a position i of 256: start + (end - start) × (i / 255)
unfoldable pub value_at : ValueRange → (i : ℕ) → Float
value_at range i =
    add binary32 range.start (mul binary32 (sub binary32 range.end range.start) (div binary32 (of_int binary32 (pos i)) (of_int binary32 (pos 255))))

-- without nodata value
unfoldable pub list_colors : Legend → List ℕ
list_colors l = map (painter l None).plain (tabulate 256 (value_at (range_in l.kind l)))

-- 16, 17
unfoldable pub color_list : Legend → Result (List ℕ) Refusal
color_list l = made_unless (total_range_refusal l) (list_colors l)
