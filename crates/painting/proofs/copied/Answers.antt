-- `copied` meets its contract. Assumes nothing.
use native.Mathlib.Omega.{arith}
use mathlib.Core.Path.{sym}
use lib.ListN.{length-drop}
use lib.Seq.{get_or-drop}
use Rattle.painting.proofs.Lists.{copy_start, copy_turn, copy_end}
use Rattle.painting.proofs.copied.Goals as goal

pub loop-i-init : goal.loop-i-init
loop-i-init c = copy_start

pub loop-i-preserved : goal.loop-i-preserved
loop-i-preserved c =
    copy_turn c.loop-i.invariant (omega arith) (omega arith)
    (omega (arith, length-drop c.args.at c.args.from.now)) (omega arith)
    (sym (get_or-drop c.args.at c.args.from.now c.loop-i.i 0))

pub returns : goal.returns
returns c = copy_end c.loop-i.invariant (omega arith)
