-- `narrowed_key` meets its contract. Assumes nothing.
use Rattle.std.specs.Prelude.{Some}
use mathlib.Core.Bool.{Bool, cond}
use mathlib.Core.Path.{◌≡◌, sym, subst, ap, ◌∙◌}
use mir.Syntax.{w32, w64}
use mir.Val.{SFits, to_z}
use mir.ValLaws.{to_z-of_z}
use Rattle.categoric_search.specs.forms.Searchable.{in_key_range}
use Rattle.categoric_search.specs.forms.Narrow.{none, narrow_key}
use Rattle.categoric_search.proofs.NearKeys.{key_fits}
use Rattle.categoric_search.proofs.narrow.narrowed_key.Goals as goal
use Rattle.categoric_search.proofs.narrow.narrowed_key.Goals.{Joined-in_key_range, then-in_key_range, else-in_key_range}

kept-is : (c : Joined-in_key_range) → to_z w64 c.if-in_key_range.kept-bits ≡ narrow_key (Some c.args.key)
unfolding narrow_key
kept-is c =
    let z = c.args.key in
    let back = to_z-of_z w64 z c.ranges.key in
    let e = sym (c.in_key_range.ensures ∙ ap in_key_range back) in
    elim c.if-in_key_range.branch [
      | then-in_key_range w ↦ w.kept-is ∙ back ∙ sym (ap (λ (b : Bool). cond b z none) (e ∙ w.if-in_key_range.true))
      | else-in_key_range w ↦ w.kept-is ∙ sym (ap (λ (b : Bool). cond b z none) (e ∙ w.if-in_key_range.false))
    ]

pub overflow_cast-result : goal.overflow_cast-result
overflow_cast-result c = subst (SFits w32) (sym (kept-is c)) (key_fits (Some c.args.key))

pub returns : goal.returns
returns c = to_z-of_z w32 _ (overflow_cast-result c) ∙ kept-is c
