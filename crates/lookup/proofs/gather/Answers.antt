-- `gather` meets its contract. Assumes nothing.
use Rattle.lists.proofs.Padding.{storing_start}
use Rattle.lookup.proofs.gather.Goals as goal

pub loop-i-init : goal.loop-i-init
loop-i-init c = storing_start
