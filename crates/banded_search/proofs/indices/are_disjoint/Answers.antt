-- `are_disjoint` meets its contract: the invariant says that the flag tells of the bands passed. Assumes nothing.
use Prim.Native.Nat.{ℕ, ◌+◌, ◌-◌, min}
use mathlib.Core.Bool.{Bool, ◌&&◌}
use mathlib.Core.Path.{◌≡◌, ap, sym, ◌∙◌}
use native.Mathlib.Omega.{arith}
use Rattle.banded_columns.specs.Order.{clears, each_next}
use Rattle.banded_rule.specs.forms.Columns.{band_at, from_columns}
use Rattle.banded_search.proofs.ColumnTests.{next_few, next_band_more}
use Rattle.banded_search.proofs.indices.are_disjoint.Goals as goal

pub loop-i-init : goal.loop-i-init
loop-i-init c = λ colors. next_few c.args.starts.now c.args.ends.now colors clears (min 1 c.args.count) (omega arith)

pub loop-i-preserved : goal.loop-i-preserved
loop-i-preserved c =
    let a = c.args in
    let s = a.starts.now in
    let e = a.ends.now in
    let i = c.loop-i.i in
    let now : min i a.count ≡ i = omega arith in
    let then : min (i + 1) a.count ≡ i + 1 = omega arith in
    λ colors. ap (λ (t : Bool). t && clears (band_at s e colors (i - 1)) (band_at s e colors i))
    (c.loop-i.invariant colors ∙ ap (λ (n : ℕ). each_next clears (from_columns s e colors n)) now)
    ∙ next_band_more s e colors clears i (omega arith) ∙ sym (ap (λ (n : ℕ). each_next clears (from_columns s e colors n)) then)

pub returns : goal.returns
returns c =
    let a = c.args in
    let whole : min c.loop-i.i a.count ≡ a.count = omega arith in
    λ colors. c.loop-i.invariant colors ∙ ap (λ (n : ℕ). each_next clears (from_columns a.starts.now a.ends.now colors n)) whole
