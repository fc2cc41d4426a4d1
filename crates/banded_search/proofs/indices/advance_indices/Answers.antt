-- `advance_indices` meets its contract: the loop fills each index with the one that was there, moved on by a flag. Assumes nothing.
use Prim.Native.Nat.{ℕ, ◌+◌}
use mathlib.Core.Path.{ap}
use native.Mathlib.Omega.{arith}
use lib.ListN.{get_or}
use lib.Ieee.{nan, le}
use Rattle.lists.proofs.Padding.{storing_start, storing_turn}
use Rattle.banded_search.proofs.Counting.{flag_is, moved_fits}
use Rattle.banded_search.proofs.indices.advance_indices.Goals as goal

pub loop-i-init : goal.loop-i-init
loop-i-init c = storing_start

pub overflow_add-result : goal.overflow_add-result
overflow_add-result c =
    let i = c.loop-i.i in
    record { fits = moved_fits (get_or c.args.indices i 0) (le c.args.start (get_or c.args.value i nan)) (c.requires.1 i (omega arith)) }

pub loop-i-preserved : goal.loop-i-preserved
loop-i-preserved c =
    let i = c.loop-i.i in
    storing_turn c.loop-i.invariant (omega arith) (omega arith)
    (ap (λ (n : ℕ). get_or c.args.indices i 0 + n) (flag_is (le c.args.start (get_or c.args.value i nan))))
