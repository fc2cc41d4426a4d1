-- `count_is` meets its contract: a count is cast where it is not negative. Assumes nothing.
use mathlib.Core.Path.{◌≡◌, sym, subst, ap, ◌∙◌}
use lib.Dec.{T, eqb}
use lib.IntN.{pos, nat_abs}
use lib.Signed.{lt_z, non_neg}
use mir.Syntax.{w64}
use mir.Val.{to_z, of_z, Fits}
use Rattle.categoric_lists.proofs.Ranges.{negative-length, cast-length, cast_fits}
use Rattle.categoric_lists.proofs.Numbers.{not_negative, below, back, cast_may}
use Rattle.categoric_lists.proofs.count_is.Goals as goal
use Rattle.categoric_lists.proofs.count_is.Goals.{Else-count-lt0, Start}

count-back : (s : Start) → to_z w64 (of_z w64 s.args.count) ≡ s.args.count
count-back s = back s.args.count s.ranges.count.sfits

from-0 : (c : Else-count-lt0) → below c.args.count ≡ 0
from-0 c = not_negative c.args.count (sym (ap (λ z. lt_z z (pos 0)) (count-back c.before)) ∙ c.if-count-lt0.false)

pub returns-then-count-lt0 : goal.returns-then-count-lt0
returns-then-count-lt0 c = negative-length c.args.count c.args.given (sym (ap (λ z. lt_z z (pos 0)) (count-back c.before)) ∙ c.if-count-lt0.true)

pub overflow_cast-result : goal.overflow_cast-result
overflow_cast-result c =
    let s = c in (
      subst (λ z. T (non_neg z)) (sym (count-back c.before)) (cast_may s.args.count (from-0 c)),
      subst (λ z. Fits w64 (nat_abs z)) (sym (count-back c.before))
          (record { fits = cast_fits s.args.count s.ranges.count.sfits (from-0 c) }),
    )

pub returns : goal.returns
returns c = let s = c in ap (λ z. eqb (nat_abs z) s.args.given) (count-back c.before) ∙ cast-length s.args.count s.args.given (from-0 c)
