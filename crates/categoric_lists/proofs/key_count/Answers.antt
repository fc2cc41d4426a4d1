-- `key_count` meets its contract: a count is cast where it is not negative. Assumes nothing.
use mathlib.Core.Path.{◌≡◌, sym, subst, ap, ◌∙◌}
use lib.Dec.{T}
use lib.IntN.{pos, nat_abs}
use lib.Signed.{lt_z, non_neg}
use mir.Syntax.{w64}
use mir.Val.{Fits}
use Rattle.categoric_lists.specs.Range.{range_count, too_wide}
use Rattle.categoric_lists.specs.Whole.{whole}
use Rattle.categoric_lists.proofs.Ranges.{negative-none, cast_fits}
use Rattle.categoric_lists.proofs.Numbers.{not_negative, below, back, back₂, cast_is, cast_may}
use Rattle.categoric_lists.proofs.key_count.Goals as goal
use Rattle.categoric_lists.proofs.key_count.Goals.{After-range_count-count, Else-count-lt0}

count-is : (c : After-range_count-count) → c.range_count-count.result ≡ range_count c.args.start c.args.end
count-is c =
    let s = c in
    c.range_count-count.ensures ∙ back₂ range_count s.args.start s.args.end s.ranges.start.sfits s.ranges.end.sfits

from-0 : (c : Else-count-lt0) → below c.range_count-count.result ≡ 0
from-0 c = let n = c.range_count-count in not_negative n.result (sym (ap (λ z. lt_z z (pos 0)) (back n.result n.type_inv)) ∙ c.if-count-lt0.false)

pub range_count-count-requires : goal.range_count-count-requires
range_count-count-requires c = back₂ too_wide c.args.start c.args.end c.ranges.start.sfits c.ranges.end.sfits ∙ c.requires

pub returns-then-count-lt0 : goal.returns-then-count-lt0
returns-then-count-lt0 c =
    let n = c.range_count-count in
    negative-none n.result (sym (ap (λ z. lt_z z (pos 0)) (back n.result n.type_inv)) ∙ c.if-count-lt0.true) ∙ ap whole (count-is c.before)

pub overflow_cast-result : goal.overflow_cast-result
overflow_cast-result c =
    let n = c.range_count-count in (
      subst (λ z. T (non_neg z)) (sym (back n.result n.type_inv)) (cast_may n.result (from-0 c)),
      subst (λ z. Fits w64 (nat_abs z))
          (sym (back n.result n.type_inv)) (record { fits = cast_fits n.result n.type_inv (from-0 c) }),
    )

pub returns : goal.returns
returns c =
    let n = c.range_count-count in
    ap nat_abs (back n.result n.type_inv) ∙ cast_is n.result (from-0 c) ∙ ap whole (count-is c.before)
