-- `whole_low` meets its contract. Assumes nothing.
use Rattle.std.specs.Prelude.{Some}
use mathlib.Core.Path.{sym, ap, ◌∙◌}
use Rattle.replay_calls.specs.Rows.{whole_low}
use lib.IntN.{ℤ}
use mir.Syntax.{w64}
use mir.ValLaws.{to_z-of_z}
use Rattle.replay_calls.proofs.whole_low.Goals as goal

pub returns-in-Some : goal.returns-in-Some
returns-in-Some c =
    c.low.ensures
    ∙ ap (λ (y : ℤ). whole_low (Some y)) (to_z-of_z w64 c.in-Some.key (record { sfits = c.in-Some.known_told-1-own.given.0.1 }))
    ∙ sym (ap whole_low c.in-Some.is)
