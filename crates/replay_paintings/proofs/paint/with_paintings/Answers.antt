-- `with_paintings` meets its contract. Assumes nothing.
use native.Mathlib.Omega.{arith}
use Rattle.replay_paintings.specs.Paintings.{with_paintings}
use Rattle.replay_paintings.proofs.paint.with_paintings.Goals as goal

pub with_lanes-with_4-requires : goal.with_lanes-with_4-requires
with_lanes-with_4-requires c = (omega arith, omega arith)

pub with_lanes-with_8-requires : goal.with_lanes-with_8-requires
with_lanes-with_8-requires c = (omega arith, omega arith)

pub with_lanes-requires : goal.with_lanes-requires
with_lanes-requires c = (omega arith, omega arith)

pub returns : goal.returns
unfolding with_paintings
returns c =
    cc (c.with_lanes.ensures, c.with_lanes-with_8.ensures, c.with_lanes-with_4.ensures, c.put-with_plain.ensures, c.put-with_values.ensures)
