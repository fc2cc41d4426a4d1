-- `weigh` meets its contract: the invariant says that the weights left bring the result to the whole. Assumes nothing.
use borrow.Author.Rules.{rules}
use Prim.Native.Nat.{◌<◌}
use mathlib.Core.Path.{◌≡◌}
use native.Mathlib.Omega.{arith}
use lib.ListN.{length, get_or}
use Rattle.tally.proofs.Weighing.{weighing_start, weighing_bound, weighing_turn, weighing_end}
use Rattle.tally.proofs.weigh.Goals as goal

pub loop-i-init : goal.loop-i-init
loop-i-init c = let a = c.args in weighing_start a.weights.now a.m a.codes a.number

pub offset_bounds-weights-code : goal.offset_bounds-weights-code
offset_bounds-weights-code c =
    let code : get_or c.args.codes c.loop-i.i 0 < length c.args.weights.now = c.requires.1 c.loop-i.i (omega arith) in
    search rules

pub bounds-weights-code : goal.bounds-weights-code
bounds-weights-code c = let l = c in l.requires.1 l.loop-i.i (omega arith)

pub overflow_add-result : goal.overflow_add-result
overflow_add-result c =
    let long : length c.args.codes ≡ 16 = search rules in
    omega (arith, weighing_bound c.args.weights.now c.args.m c.args.codes c.args.number c.loop-i.invariant (omega arith) (omega arith))

pub loop-i-preserved : goal.loop-i-preserved
loop-i-preserved c =
    let long : length c.args.codes ≡ 16 = search rules in
    weighing_turn c.args.weights.now c.args.m c.args.codes c.args.number c.loop-i.invariant (omega arith) (omega arith)

pub returns : goal.returns
returns c =
    weighing_end c.args.weights.now c.args.m c.args.codes c.args.number c.loop-i.invariant (omega arith)
