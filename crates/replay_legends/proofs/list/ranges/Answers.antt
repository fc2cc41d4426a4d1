-- The array begins as zeros: their bits are those of 0.
use Rattle.std.proofs.Common.{sym}
use Rattle.std.specs.Float.Ieee.{of_bits}
use Rattle.replay_rows.proofs.Stored.{stored_none}
use Rattle.replay_legends.proofs.list.ranges.Goals as goal

pub loop-i-init : goal.loop-i-init
unfolding of_bits
loop-i-init c = sym (stored_none _ 64 _)
