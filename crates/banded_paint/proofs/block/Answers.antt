-- `block` meets its contract. Assumes nothing.
use mathlib.Core.Path.{refl}
use native.Mathlib.Omega.{arith}
use Rattle.painting.proofs.LaneChunk.{lanes_laid}
use Rattle.banded_paint.proofs.block.Goals as goal

pub returns : goal.returns
returns c = lanes_laid _ _ _ _ 16 _ refl (omega arith) (omega arith) c.load-v.ensures c.store.ensures _ c.words.ensures
