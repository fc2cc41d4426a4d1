-- `keys_refusal` meets its contract: the loop has refused no key passed. Assumes nothing.
use Rattle.std.proofs.Common.{arith}
use Rattle.categoric_lists.proofs.Refusing.{key_passed}
use Rattle.categoric_lists.proofs.keys_refusal.Goals as goal

pub loop-i-preserved : goal.loop-i-preserved
loop-i-preserved c = key_passed c.args.keys.now c.loop-i.i c.loop-i.invariant (omega arith) (grind arith)
