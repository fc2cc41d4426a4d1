-- `load` meets its contract. Assumes nothing.
use native.Mathlib.Omega.{arith}
use Rattle.std.proofs.lemmas.Grind.{common_steps}
use Rattle.painting.proofs.Lists.{part_over}
use Rattle.painting.proofs.load.Goals as goal

pub returns : goal.returns
returns c = part_over _ 16 c.args.l c.args.base c.args.src.now (grind (arith, common_steps, c.copy_from_slice.ensures.after)) (omega arith)
