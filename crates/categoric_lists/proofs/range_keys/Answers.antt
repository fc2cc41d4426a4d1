-- `range_keys` meets its contract: the loop has stored the keys passed, each of which fits. Assumes nothing.
use mathlib.Core.Path.{sym, subst, ap, ◌∙◌}
use Prim.Native.Nat.{◌^◌, ◌<◌}
use native.Mathlib.Omega.{arith}
use borrow.Author.Rules.{rules}
use lib.IntN.{pos, ◌+ℤ◌}
use lib.Signed.{mag}
use mir.Syntax.{w64}
use mir.Val.{to_z, of_z}
use mir.ValLaws.{to_z_pos}
use Rattle.lists.specs.Tabulate.{tabulate}
use Rattle.lists.specs.Padded.{padded}
use Rattle.lists.proofs.Padding.{storing_start, storing_turn, storing_end}
use Rattle.categoric_lists.proofs.Numbers.{back}
use Rattle.categoric_lists.proofs.range_keys.Goals as goal

pub loop-i-init : goal.loop-i-init
loop-i-init c = (search rules, storing_start)

pub overflow_add-keys : goal.overflow_add-keys
overflow_add-keys c =
    let l = c.loop-i in
    record {
      sfits =
          subst (λ z. mag (to_z w64 (of_z w64 c.args.start) +ℤ z) < 2 ^ 63) (sym (to_z_pos w64 l.i (omega arith)))
          (subst (λ z. mag (z +ℤ pos l.i) < 2 ^ 63) (sym (back c.args.start c.ranges.start.sfits))
          (c.requires.1 l.i c.loop-i-test.true).sfits);
    }

pub loop-i-preserved : goal.loop-i-preserved
loop-i-preserved c =
    let l = c.loop-i in (
      search rules,
      storing_turn l.invariant.1 c.loop-i-test.true (search rules)
          (ap (λ z. to_z w64 (of_z w64 (to_z w64 (of_z w64 c.args.start) +ℤ z))) (to_z_pos w64 l.i (omega arith))
          ∙ back (to_z w64 (of_z w64 c.args.start) +ℤ pos l.i)
          (subst (λ z. mag (z +ℤ pos l.i) < 2 ^ 63) (sym (back c.args.start c.ranges.start.sfits)) (c.requires.1 l.i c.loop-i-test.true).sfits)),
    )

pub returns : goal.returns
returns c =
    storing_end c.loop-i.invariant.1 (omega arith)
    ∙ ap (λ z. padded (pos 0) 256 (tabulate c.args.count (λ k. z +ℤ pos k))) (back c.args.start c.ranges.start.sfits)
