-- `ends_in_key_range` meets its contract. Assumes nothing.
use borrow.Author.Rules.{rules}
use mathlib.Core.Path.{sym, ap, ap₂, ◌∙◌}
use mathlib.Core.Bool.{Bool, ◌&&◌}
use mir.Syntax.{w64}
use mir.ValLaws.{to_z-of_z}
use Rattle.categoric_search.specs.forms.Searchable.{in_key_range, ends_in_key_range}
use Rattle.categoric_search.proofs.NearKeys.{ends_of}
use Rattle.categoric_search.proofs.narrow.ends_in_key_range.Goals as goal

pub returns-then-count-eq0 : goal.returns-then-count-eq0
unfolding ends_in_key_range
returns-then-count-eq0 c = sym (ap (ends_in_key_range c.args.keys.now) c.if-count-eq0.true)

pub returns : goal.returns
returns c =
    ap₂ (λ (x y : Bool). x && y)
    (c.in_key_range.ensures ∙ ap in_key_range (to_z-of_z w64 _ (search rules)))
    (c.in_key_range-2.ensures ∙ ap in_key_range (to_z-of_z w64 _ (search rules)))
    ∙ ends_of c.args.keys.now c.args.count c.if-count-eq0.false
