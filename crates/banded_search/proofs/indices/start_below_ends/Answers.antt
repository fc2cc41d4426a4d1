-- `start_below_ends` meets its contract: the invariant says that the flag tells of the bands passed. Assumes nothing.
use Prim.Native.Nat.{ℕ}
use mathlib.Core.Bool.{Bool, ◌&&◌}
use mathlib.Core.Path.{◌≡◌, ap, ◌∙◌}
use native.Mathlib.Omega.{arith}
use Rattle.lists.specs.Each.{each}
use Rattle.banded_columns.specs.Order.{starts_below_end}
use Rattle.banded_rule.specs.forms.Columns.{band_at, from_columns}
use Rattle.banded_search.proofs.ColumnTests.{each_none, each-band_more}
use Rattle.banded_search.proofs.indices.start_below_ends.Goals as goal

pub loop-i-init : goal.loop-i-init
loop-i-init c = λ colors. each_none c.args.starts.now c.args.ends.now colors starts_below_end

pub loop-i-preserved : goal.loop-i-preserved
loop-i-preserved c =
    let s = c.args.starts.now in
    let e = c.args.ends.now in
    let i = c.loop-i.i in
    λ colors. ap (λ (t : Bool). t && starts_below_end (band_at s e colors i)) (c.loop-i.invariant colors) ∙ each-band_more s e colors starts_below_end i

pub returns : goal.returns
returns c =
    let a = c.args in
    let whole : c.loop-i.i ≡ a.count = omega arith in
    λ colors. c.loop-i.invariant colors ∙ ap (λ (n : ℕ). each starts_below_end (from_columns a.starts.now a.ends.now colors n)) whole
