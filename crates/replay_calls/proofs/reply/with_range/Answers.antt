-- `with_range` meets its contract. Assumes nothing.
use mathlib.Core.Path.{sym, ap, ◌∙◌, ap₂}
use lib.ListN.{set}
use Rattle.replay_calls.specs.Replies.{with_range}
use Rattle.replay_calls.proofs.reply.with_range.Goals as goal

pub returns-in-Ok : goal.returns-in-Ok
returns-in-Ok c =
    let a = c.args in
    ap₂ (λ x y. set (set a.row 130 x) 131 y) c.bits.ensures c.bits-in-Ok.ensures
    ∙ sym (ap (λ t. with_range t a.row) c.in-Ok.is)

pub returns-in-Err : goal.returns-in-Err
returns-in-Err c =
    let a = c.args in ap (set a.row 130) c.number.ensures ∙ sym (ap (λ t. with_range t a.row) c.in-Err.is)
