-- `with_hex` meets its contract. Assumes nothing.
use mathlib.Core.Path.{sym, ap, ◌∙◌, ap₂}
use lib.ListN.{set}
use Rattle.replay_calls.specs.Rows.{with_hex}
use Rattle.replay_calls.proofs.with_hex.Goals as goal

pub returns-in-Ok : goal.returns-in-Ok
returns-in-Ok c =
    let a = c.args in
    ap₂ (λ r w. set r 130 w) c.with_answer-answered.ensures c.to_bits.ensures
    ∙ sym (ap (λ x. with_hex x a.row) c.in-Ok.is)

pub returns-in-Err : goal.returns-in-Err
returns-in-Err c =
    let a = c.args in c.with_answer.ensures ∙ sym (ap (λ x. with_hex x a.row) c.in-Err.is)
