-- `range_count` meets its contract: the sums fit since the range is not too wide. Assumes nothing.
use mathlib.Core.Path.{◌≡◌, sym, subst, ap, ◌∙◌}
use Prim.Native.Nat.{◌^◌, ◌<◌}
use lib.IntN.{pos, ◌+ℤ◌, ◌-ℤ◌}
use lib.Signed.{mag}
use mir.Syntax.{w64}
use mir.Val.{to_z, of_z}
use Rattle.categoric_lists.proofs.Ranges.{width_fits, count_fits}
use Rattle.categoric_lists.proofs.Numbers.{back, back₂}
use Rattle.categoric_lists.proofs.range_count.Goals as goal
use Rattle.categoric_lists.proofs.range_count.Goals.{Start}

given : (s : Start) → to_z w64 (of_z w64 s.args.end) -ℤ to_z w64 (of_z w64 s.args.start) ≡ s.args.end -ℤ s.args.start
given s = back₂ ◌-ℤ◌ s.args.end s.args.start s.ranges.end.sfits s.ranges.start.sfits

width_is : (s : Start) → to_z w64 (of_z w64 (to_z w64 (of_z w64 s.args.end) -ℤ to_z w64 (of_z w64 s.args.start))) ≡ s.args.end -ℤ s.args.start
width_is s = ap (λ z. to_z w64 (of_z w64 z)) (given s) ∙ back (s.args.end -ℤ s.args.start) (width_fits s.args.start s.args.end s.requires)

pub overflow_sub-result : goal.overflow_sub-result
overflow_sub-result c = record { sfits = subst (λ z. mag z < 2 ^ 63) (sym (given c)) (width_fits c.args.start c.args.end c.requires) }

pub overflow_add-result : goal.overflow_add-result
overflow_add-result c = record { sfits = subst (λ z. mag (z +ℤ pos 1) < 2 ^ 63) (sym (width_is c)) (count_fits c.args.start c.args.end c.requires) }

pub returns : goal.returns
returns c =
    ap (λ z. to_z w64 (of_z w64 (z +ℤ pos 1))) (width_is c)
    ∙ back (c.args.end -ℤ c.args.start +ℤ pos 1) (count_fits c.args.start c.args.end c.requires)
