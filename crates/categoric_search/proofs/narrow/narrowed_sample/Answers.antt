-- `narrowed_sample` meets its contract. Assumes nothing.
use Rattle.std.specs.Prelude.{Some}
use borrow.Author.Rules.{rules}
use mathlib.Core.Path.{sym, ap, ◌∙◌}
use lib.IntN.{ℤ}
use mir.Syntax.{w32, w64}
use mir.ValLaws.{to_z-of_z}
use Rattle.categoric_search.specs.forms.Narrow.{narrow_key}
use Rattle.categoric_search.proofs.narrow.narrowed_sample.Goals as goal

pub returns-in-Some : goal.returns-in-Some
returns-in-Some c =
    to_z-of_z w32 _ (search rules)
    ∙ c.narrowed_key.ensures
    ∙ ap (λ (y : ℤ). narrow_key (Some y)) (to_z-of_z w64 _ (search rules))
    ∙ sym (ap narrow_key (sym c.to_i64.ensures ∙ c.in-Some.is))

pub returns-in-None : goal.returns-in-None
unfolding narrow_key
returns-in-None c =
    sym (ap narrow_key (sym c.to_i64.ensures ∙ c.in-None.is))
