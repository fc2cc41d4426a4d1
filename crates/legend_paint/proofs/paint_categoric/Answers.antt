-- `paint_categoric` meets its contract. Assumes nothing.
use borrow.Author.Rules.{rules}
use mathlib.Core.Path.{ap, ◌∙◌}
use native.Mathlib.Omega.{arith}
use Rattle.categoric_paint.specs.forms.TableSamples.{table_sample, table_chunk}
use Rattle.categoric_paint.specs.forms.KeySamples.{key_sample}
use Rattle.painting.specs.Painted.{plain_painted}
use Rattle.legend.specs.Painters.{categoric_painter}
use Rattle.legend_view.specs.Borrowed.{borrowed_categoric}
use Rattle.legend_paint.proofs.Lanes.{lanes_count, painted_plainly, painted-in_lanes, painted_without}
use Rattle.legend_paint.proofs.Same.{table-simd, keys-simd, table_sample_lem, table-chunk, key_sample_lem}
use Rattle.legend_paint.proofs.paint_categoric.Goals as goal

pub returns-then-table-eq0 : goal.returns-then-table-eq0
returns-then-table-eq0 c =
    let a = c.args in
    let k = borrowed_categoric a.keys.keys.now a.keys.colors.now a.keys.count a.table.lookup.now a.table.size in
    c.paint_by_keys.ensures
    ∙ ap (λ f. plain_painted f a.src.now)
    (ap (key_sample a.keys.keys.now a.keys.colors.now a.keys.count) c.categoric_paint-p.ensures ∙ key_sample_lem a.config a.nodata k c.if-table-eq0.true)
    ∙ painted_without (categoric_painter k a.config a.nodata) a.lanes a.src.now (keys-simd a.config a.nodata k c.if-table-eq0.true)

pub returns-then-lanes-eq0 : goal.returns-then-lanes-eq0
returns-then-lanes-eq0 c =
    let a = c.args in
    let k = borrowed_categoric a.keys.keys.now a.keys.colors.now a.keys.count a.table.lookup.now a.table.size in
    c.paint_by_table.ensures
    ∙ painted_plainly (categoric_painter k a.config a.nodata) a.lanes a.src.now
    (ap (table_sample a.table.lookup.now a.table.size) c.categoric_paint-p.ensures ∙ table_sample_lem a.config a.nodata k (omega (arith, c.if-table-eq0.false)))
    c.if-lanes-eq0.true

pub paint_by_table_simd-requires : goal.paint_by_table_simd-requires
paint_by_table_simd-requires c = (lanes_count c.args.lanes c.requires.0 c.if-lanes-eq0.false, search rules)

pub returns : goal.returns
returns c =
    let a = c.args in
    let k = borrowed_categoric a.keys.keys.now a.keys.colors.now a.keys.count a.table.lookup.now a.table.size in
    c.paint_by_table_simd.ensures
    ∙ painted-in_lanes (categoric_painter k a.config a.nodata) a.lanes a.src.now
    (ap (table_chunk a.table.lookup.now a.table.size) c.categoric_paint-p.ensures ∙ table-chunk a.config a.nodata k)
    (ap (table_sample a.table.lookup.now a.table.size) c.categoric_paint-p.ensures ∙ table_sample_lem a.config a.nodata k (omega (arith, c.if-table-eq0.false)))
    (table-simd a.config a.nodata k (omega (arith, c.if-table-eq0.false))) c.if-lanes-eq0.false
