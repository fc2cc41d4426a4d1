-- `paint_linear` meets its contract. Assumes nothing.
use mathlib.Core.Path.{ap, ◌∙◌}
use Rattle.linear_paint.specs.forms.Samples.{plain_sample, lane_chunk}
use Rattle.legend.specs.Painters.{linear_painter}
use Rattle.legend_view.specs.Borrowed.{borrowed_linear}
use Rattle.legend_paint.proofs.Lanes.{lanes_count, painted_plainly, painted-in_lanes}
use Rattle.legend_paint.proofs.Same.{linear-simd, linear_sample, linear-chunk}
use borrow.Author.Rules.{rules}
use Rattle.legend_paint.proofs.paint_linear.Goals as goal

pub returns-then-lanes-eq0 : goal.returns-then-lanes-eq0
returns-then-lanes-eq0 c =
    let a = c.args in
    c.paint.ensures ∙ painted_plainly (linear_painter (borrowed_linear a.start a.end a.cmap.now) a.config a.nodata) a.lanes a.src.now
    (ap plain_sample c.linear_paint-linear.ensures ∙ linear_sample a.config a.nodata a.cmap a.start a.end) c.if-lanes-eq0.true

pub paint_simd-requires : goal.paint_simd-requires
paint_simd-requires c = (lanes_count c.args.lanes c.requires.0 c.if-lanes-eq0.false, search rules)

pub returns : goal.returns
returns c =
    let a = c.args in
    c.paint_simd.ensures ∙ painted-in_lanes (linear_painter (borrowed_linear a.start a.end a.cmap.now) a.config a.nodata) a.lanes a.src.now
    (ap lane_chunk c.linear_paint-linear.ensures ∙ linear-chunk a.config a.nodata a.cmap a.start a.end)
    (ap plain_sample c.linear_paint-linear.ensures ∙ linear_sample a.config a.nodata a.cmap a.start a.end)
    (linear-simd a.config a.nodata a.cmap a.start a.end) c.if-lanes-eq0.false
