-- `insert` meets its contract: over an equal key, or in the room made before a larger one. Assumes nothing.
use mathlib.Core.Path.{ap, ◌∙◌}
use native.Mathlib.Omega.{arith}
use lib.ListN.{set}
use mir.Syntax.{w64}
use mir.Val.{to_z, of_z}
use Rattle.categoric_build.proofs.Inserting.{place_count}
use Rattle.categoric_build.proofs.Putting.{put_over, put_new}
use Rattle.categoric_lists.proofs.Numbers.{back}
use Rattle.categoric_build.proofs.sorted.insert.Goals as goal
use Rattle.categoric_build.proofs.sorted.insert.Goals.{else-at-count-via-then-at-count+else-keys-at, else-at-count-via-else-at-count}

pub returns-then-keys-at : goal.returns-then-keys-at
returns-then-keys-at c =
    put_over c.args.keys.now c.args.colors.now c.args.count (back c.args.key c.ranges.key.sfits) c.insertion_index-at.ensures c.if-at-count.true
    (grind arith) c.store.ensures.0 c.store.ensures.1

pub shift_up-requires : goal.shift_up-requires
shift_up-requires c =
    let at = place_count (to_z w64 (of_z w64 c.args.key)) c.args.keys.now c.args.count c.requires.1 (omega arith) in
    (omega arith, c.requires.0, c.requires.1, c.requires.2)

pub store-requires-2 : goal.store-requires-2
store-requires-2 c = omega (arith, place_count (to_z w64 (of_z w64 c.args.key)) c.args.keys.now c.args.count c.requires.1 (omega arith))

pub returns : goal.returns
returns c =
    let at = c.insertion_index-at.result in
    put_new c.args.keys.now c.args.colors.now c.args.count (back c.args.key c.ranges.key.sfits) c.insertion_index-at.ensures
    (λ q. elim c.else-at-count.branch [
      | else-at-count-via-then-at-count+else-keys-at w ↦ grind arith
      | else-at-count-via-else-at-count w ↦ absurd (omega arith)
    ])
    (c.store-2.ensures.0 ∙ ap (λ l. set l at (to_z w64 (of_z w64 c.args.key))) c.shift_up.ensures.0)
    (c.store-2.ensures.1 ∙ ap (λ l. set l at c.args.color) c.shift_up.ensures.1)
