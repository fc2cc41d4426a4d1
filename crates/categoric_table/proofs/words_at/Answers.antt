-- `words_at` meets its contract. Assumes nothing.
use borrow.Author.Rules.{rules}
use mathlib.Core.Path.{ap}
use Prim.Native.Nat.{◌<◌}
use native.Mathlib.Omega.{arith}
use lib.ListN.{get_or}
use lib.Ieee.{of_bits}
use Rattle.lists.proofs.Padding.{storing_start, storing_turn}
use Rattle.lists.proofs.LanesOf.{lanes-stored}
use Rattle.categoric_table.proofs.TableTest.{place_from, place_below, place_lt}
use Rattle.categoric_table.proofs.words_at.Goals as goal
use Rattle.categoric_table.proofs.words_at.Goals.{After-floor-index}

pub loop-i-init : goal.loop-i-init
loop-i-init c = storing_start

pub floor-index-requires : goal.floor-index-requires
unfolding of_bits
floor-index-requires c =
    let i = c.loop-i.i in
    let p = c.requires.1 i c.loop-i-test.true in
    record { from_zero = place_from _ p; below_1024 = place_below _ p }

index-lt : (c : After-floor-index) → c.floor-index.result < 513
index-lt c = omega (arith, c.floor-index.ensures, place_lt _ (c.requires.1 c.loop-i.i c.loop-i-test.true))

pub offset_bounds-lookup-index : goal.offset_bounds-lookup-index
offset_bounds-lookup-index c = let l = index-lt c in search rules

pub bounds-lookup-index : goal.bounds-lookup-index
bounds-lookup-index c = let l = index-lt c.before.before in search rules

pub loop-i-preserved : goal.loop-i-preserved
loop-i-preserved c = storing_turn c.loop-i.invariant (omega arith) (omega arith) (ap (λ k. get_or c.args.lookup.now k 0) c.floor-index.ensures)

pub returns : goal.returns
returns c = lanes-stored c.loop-i.invariant (omega arith)
