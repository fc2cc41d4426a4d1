-- A legend as C lends it: what is neither an array nor the bands, the bands, and the arrays. Definitions only.
use Rattle.std.specs.Prelude.{List, ℕ, ℤ}
use Rattle.banded.specs.declared.Banded.{Banded}
use Rattle.legend.specs.declared.Legend.{Legend}
use Rattle.legend_view.specs.Borrowed.{borrowed_linear, borrowed_categoric}
use Rattle.c_types.specs.Settings.{settings_from_c}
use Rattle.c_records.specs.declared.view.LegendView.{LegendView}
use Rattle.legend.specs.Record.{kind_numbered}

-- the legend that is lent
unfoldable pub view_from_c : LegendView → Banded → (cmap : List ℕ) (keys : List ℤ) (colors lookup : List ℕ) → Legend
view_from_c h banded cmap keys colors lookup =
    record {
      kind = kind_numbered h.kind;
      linear = borrowed_linear h.start h.end cmap;
      banded = banded;
      categoric = borrowed_categoric keys colors h.count lookup h.lookup_count;
      mapping_config = settings_from_c h.settings;
    }
