-- `unpack` meets its contract: the invariant says that the totals left take the digits of the rest. Assumes nothing.
use borrow.Author.Rules.{rules}
use mathlib.Core.Path.{◌≡◌}
use native.Mathlib.Omega.{arith}
use lib.ListN.{length}
use Rattle.tally.proofs.Unpacking.{unpacking_start, unpacking_kept, unpacking_turn, unpacking_end}
use Rattle.tally.proofs.unpack.Goals as goal

pub loop-s-init : goal.loop-s-init
loop-s-init c = unpacking_start c.args.totals c.args.number

pub overflow_add-result : goal.overflow_add-result
overflow_add-result c =
    omega (arith, unpacking_kept c.args.totals c.args.number c.loop-s.invariant, c.requires c.loop-s.s (omega arith))

pub loop-s-preserved : goal.loop-s-preserved
loop-s-preserved c =
    let long : length c.args.totals ≡ 7 = search rules in
    unpacking_turn c.args.totals c.args.number c.loop-s.invariant (omega arith)

pub returns : goal.returns
returns c =
    let long : length c.args.totals ≡ 7 = search rules in
    unpacking_end c.args.totals c.args.number c.loop-s.invariant (omega arith)
