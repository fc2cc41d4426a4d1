-- `color_for_numeric_value` meets its contract: the invariant says that the bands from i on decide as all bands do. Assumes nothing.
use mathlib.Core.Path.{ap₂, sym, ◌∙◌}
use native.Mathlib.Omega.{arith}
use Rattle.banded_columns.specs.declared.LegendBand.{LegendBand}
use Rattle.banded_rule.specs.forms.Steps.{edge_color}
use Rattle.banded_rule.proofs.Forms.{plain_packed, plain-none, first_held, first_passed, first_end}
use Rattle.banded_rule.proofs.color_for_numeric_value.Goals as goal

pub returns-then-columns-eq0 : goal.returns-then-columns-eq0
returns-then-columns-eq0 c =
    let b = c.args.columns in
    sym (plain-none b.starts.now b.ends.now b.colors.now b.count c.args.u c.args.value c.if-columns-eq0.true)

pub loop-i-init : goal.loop-i-init
loop-i-init c = let b = c.args.columns in sym (plain_packed b.starts.now b.ends.now b.colors.now b.count c.args.u c.args.value (omega arith))

pub returns-then-holds : goal.returns-then-holds
returns-then-holds c =
    let b = c.args.columns in
    sym (first_held b.starts.now b.ends.now b.colors.now b.count c.loop-i.i c.args.value _ (omega arith) c.band_at-band.ensures
    (sym c.holds.ensures ∙ c.if-holds.true)) ∙ c.loop-i.invariant

pub loop-i-preserved : goal.loop-i-preserved
loop-i-preserved c =
    let b = c.args.columns in
    sym (first_passed b.starts.now b.ends.now b.colors.now b.count c.loop-i.i c.args.value _ (omega arith) c.band_at-band.ensures
    (sym c.holds.ensures ∙ c.if-holds.false)) ∙ c.loop-i.invariant

pub returns : goal.returns
returns c =
    let b = c.args.columns in
    c.edge_color.ensures
    ∙ ap₂ (λ (x y : LegendBand). edge_color x y c.args.u c.args.value) c.first-first.ensures c.last-last.ensures
    ∙ sym (first_end b.starts.now b.ends.now b.colors.now b.count c.loop-i.i c.args.value _ (omega arith)) ∙ c.loop-i.invariant
