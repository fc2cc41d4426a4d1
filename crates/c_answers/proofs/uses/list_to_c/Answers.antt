-- `uses::list_to_c` meets its contract. Assumes nothing.
use mathlib.Core.Path.{◌≡◌, sym, ◌∙◌}
use lib.ListN.{replicate}
use Rattle.c_answers.proofs.Listed.{list_refused}
use Rattle.c_answers.proofs.uses.list_to_c.Goals as goal

pub returns-in-Err : goal.returns-in-Err
returns-in-Err c =
    (λ j. record { answer = c.to_c-in-Err.ensures j; colors = replicate 256 0 })
    ∙ sym (list_refused c.args.first c.args.list (sym c.and.ensures ∙ c.in-Err.is))
