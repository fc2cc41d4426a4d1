-- The words of all samples are those of the list of them.
use Rattle.std.proofs.Common.{◌≡◌, arith, rules}
use Rattle.replay_paintings.proofs.Painting.{values_are}
use Rattle.replay_paintings.proofs.paint.values.Goals as goal

pub returns : goal.returns
returns c =
    let all : c.loop-i.i ≡ c.args.count = omega arith in
    values_are _ c.args.nodata c.args.count c.args.samples (search rules) (rw all at c.loop-i.invariant)
