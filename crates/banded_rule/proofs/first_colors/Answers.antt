-- `first_colors` meets its contract: the invariant says that each place has the colour of the first band from i on. Assumes nothing.
use mathlib.Core.Path.{sym, ap, ◌∙◌}
use mathlib.Core.Bool.{cond}
use Prim.Native.Nat.{◌-◌}
use native.Mathlib.Omega.{arith}
use lib.ListN.{get_or}
use lib.Ieee.{nan}
use Rattle.banded_columns.specs.Band.{holds}
use Rattle.banded_rule.proofs.Forms.{first_at, first_end}
use Rattle.banded_rule.proofs.first_colors.Goals as goal

pub loop-i-init : goal.loop-i-init
loop-i-init c =
    let b = c.args.columns in
    λ k q. sym (first_end b.starts.now b.ends.now b.colors.now b.count b.count (get_or c.args.value k nan) (get_or c.args.otherwise k 0) (omega arith))

pub loop-i-preserved : goal.loop-i-preserved
loop-i-preserved c =
    let a = c.args in
    let b = a.columns in
    λ k q. c.overwritten-next.ensures k q ∙ ap (cond (holds c.band_at.result (get_or a.value k nan)) c.band_at.result.color) (c.loop-i.invariant k q)
    ∙ sym (first_at b.starts.now b.ends.now b.colors.now b.count (c.loop-i.i - 1) (get_or a.value k nan) (get_or a.otherwise k 0) c.loop-i.i
    (omega arith) (omega arith) c.band_at.ensures)
