-- `paint::color_or_number` meets its contract. Assumes nothing.
use mathlib.Core.Path.{sym, ap, ◌∙◌}
use Rattle.replay_paintings.specs.Paintings.{color_or_number}
use Rattle.replay_paintings.proofs.paint.color_or_number.Goals as goal

pub returns-in-Err : goal.returns-in-Err
returns-in-Err c = c.number.ensures ∙ sym (ap color_or_number c.in-Err.is)
