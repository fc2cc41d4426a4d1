-- `clamped` meets its contract. Assumes nothing.
use mathlib.Core.Bool.{Bool, cond}
use mathlib.Core.Path.{◌≡◌, sym, ap, ◌∙◌}
use lib.Ieee.{of_bits, lt}
use Rattle.floats.specs.RampIndex.{nought}
use Rattle.categoric_table.specs.forms.InTable.{size_limit, clamp}
use Rattle.categoric_table.proofs.Table.clamped.Goals as goal
use Rattle.categoric_table.proofs.Table.clamped.Goals.{Joined-value-limit_of, then-value-limit_of, else-value-limit_of}

low-is : (c : Joined-value-limit_of) → c.if-value-limit_of.low ≡ cond (lt c.args.value (size_limit c.args.self.size)) c.args.value nought
unfolding of_bits
low-is c =
    let v = c.args.value in
    let e = ap (λ x. cond (lt v x) v nought) c.limit_of.ensures in
    elim c.if-value-limit_of.branch [
      | then-value-limit_of w ↦ w.low-is ∙ sym (ap (λ (b : Bool). cond b v nought) w.if-value-limit_of.true) ∙ e
      | else-value-limit_of w ↦ w.low-is ∙ sym (ap (λ (b : Bool). cond b v nought) w.if-value-limit_of.false) ∙ e
    ]

pub returns-then-low : goal.returns-then-low
unfolding of_bits clamp
returns-then-low c = rw (← low-is c.before, c.if-low.true)

pub returns-else-low : goal.returns-else-low
unfolding of_bits clamp
returns-else-low c = rw (← low-is c.before, c.if-low.false)
