-- `paint_banded` meets its contract. Assumes nothing.
use mathlib.Core.Path.{◌≡◌, ◌∙◌}
use native.Mathlib.Omega.{arith}
use Prim.Native.Nat.{◌≤◌}
use lib.ListN.{length}
use borrow.Author.Rules.{rules}
use Rattle.legend.specs.Painters.{banded_painter}
use Rattle.legend_paint.proofs.Lanes.{lanes_count, painted_plainly, painted-in_lanes}
use Rattle.legend_paint.proofs.Same.{banded-simd, bands_sample, bands-chunk}
use Rattle.legend_paint.proofs.paint_banded.Goals as goal

pub returns-then-lanes-eq0 : goal.returns-then-lanes-eq0
returns-then-lanes-eq0 c =
    let a = c.args in
    let long : length a.banded.bands ≡ 64 = search rules in
    let few : a.banded.count ≤ length a.banded.bands = omega arith in
    c.paint.ensures ∙ painted_plainly (banded_painter a.banded a.config a.nodata) a.lanes a.src.now
    (bands_sample a.config a.nodata a.banded few c.banded_paint-p.ensures c.starts_of-starts.ensures c.ends_of-ends.ensures
    c.colors_of-colors.ensures) c.if-lanes-eq0.true

pub paint_simd-requires : goal.paint_simd-requires
paint_simd-requires c = (lanes_count c.args.lanes c.requires.1 c.if-lanes-eq0.false, search rules)

pub returns : goal.returns
returns c =
    let a = c.args in
    let long : length a.banded.bands ≡ 64 = search rules in
    let few : a.banded.count ≤ length a.banded.bands = omega arith in
    c.paint_simd.ensures ∙ painted-in_lanes (banded_painter a.banded a.config a.nodata) a.lanes a.src.now
    (bands-chunk a.config a.nodata a.banded few c.banded_paint-p.ensures c.starts_of-starts.ensures c.ends_of-ends.ensures c.colors_of-colors.ensures)
    (bands_sample a.config a.nodata a.banded few c.banded_paint-p.ensures c.starts_of-starts.ensures c.ends_of-ends.ensures
    c.colors_of-colors.ensures) (banded-simd a.config a.nodata a.banded) c.if-lanes-eq0.false
