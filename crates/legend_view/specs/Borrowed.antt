-- The legend that a view shows: its ramp, its bands, its categories and its settings. Definitions only.
use Rattle.std.specs.Prelude.{List, ℕ, ℤ, Float}
use Rattle.linear.specs.declared.Linear.{Linear}
use Rattle.catgegoric.specs.declared.CategoricNumeric.{CategoricNumeric}
use Rattle.legend.specs.declared.Legend.{Legend}
use Rattle.legend_view.specs.declared.View.{View}

abbrev pub borrowed_linear : (start end : Float) (cmap : List ℕ) → Linear
borrowed_linear start end cmap = record { start = start; end = end; cmap = cmap }

abbrev pub borrowed_categoric : (keys : List ℤ) (colors : List ℕ) (count : ℕ) (lookup : List ℕ) (size : ℕ) → CategoricNumeric
borrowed_categoric keys colors count lookup size = record { keys = keys; colors = colors; count = count; lookup = lookup; lookup_count = size }

abbrev pub borrowed_legend : View → Legend
borrowed_legend h =
    record {
      kind = h.kind;
      linear = borrowed_linear h.start h.end h.cmap.now;
      banded = h.banded.now;
      categoric = borrowed_categoric h.keys.now h.colors.now h.count h.lookup.now h.lookup_count;
      mapping_config = h.mapping_config;
    }
