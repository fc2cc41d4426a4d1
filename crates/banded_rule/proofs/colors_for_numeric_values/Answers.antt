-- `colors_for_numeric_values` meets its contract: the edges' colours under those of the first bands are the plain rule. Assumes nothing.
use mathlib.Core.Path.{ap₂, sym, ap, ◌∙◌}
use native.Mathlib.Omega.{arith}
use lib.ListN.{get_or-replicate, get_or}
use lib.Ieee.{nan}
use Rattle.banded_columns.specs.declared.LegendBand.{LegendBand}
use Rattle.banded_rule.specs.forms.Columns.{bands_of}
use Rattle.banded_rule.specs.forms.Steps.{first_color, edge_color}
use Rattle.banded_rule.proofs.Forms.{plain-none, plain_packed}
use Rattle.banded_rule.proofs.colors_for_numeric_values.Goals as goal

pub returns-then-columns-eq0 : goal.returns-then-columns-eq0
returns-then-columns-eq0 c =
    let b = c.args.columns in
    λ k q. get_or-replicate 16 k c.args.u.nodata 0 q
    ∙ sym (plain-none b.starts.now b.ends.now b.colors.now b.count c.args.u (get_or c.args.value k nan) c.if-columns-eq0.true)

pub returns : goal.returns
returns c =
    let a = c.args in
    let b = a.columns in
    λ k q. c.first_colors.ensures k q ∙ ap (first_color (bands_of b) (get_or a.value k nan))
    (c.edge_colors-edged.ensures k q ∙ ap₂ (λ (x y : LegendBand). edge_color x y a.u (get_or a.value k nan))
    c.first.ensures c.last.ensures)
    ∙ sym (plain_packed b.starts.now b.ends.now b.colors.now b.count a.u (get_or a.value k nan) (omega arith))
