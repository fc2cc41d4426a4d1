use Rattle.std.proofs.Common.{◌≡◌, get_or}
use Rattle.std.specs.Float.{nan}
use Rattle.lists.specs.Padded.{padded}
use Rattle.lists.specs.Tabulate.{tabulate}
use Rattle.legend_view.specs.Borrowed.{borrowed_legend}
use Rattle.legend_pixel.specs.Values.{color_for_value}
use Rattle.replay_paintings.specs.Paintings.{color_or_number}
use Rattle.replay_paintings.proofs.paint.values.Given as goal

abbrev pub invariant-loop-i : goal.invariant-loop-i
invariant-loop-i l =
    l.words ≡ padded 0 40 (tabulate l.i (λ k. color_or_number (color_for_value (borrowed_legend l.view) l.nodata (get_or l.samples k nan))))
