-- `narrowed` meets its contract. Assumes nothing.
use borrow.Author.Rules.{rules}
use borrow.Author.Count.{below_none}
use mathlib.Core.Path.{refl}
use lib.ListN.{get_or, get_or-replicate}
use lib.IntN.{pos}
use mir.Syntax.{w32, w64}
use mir.ValLaws.{to_z-of_z}
use Rattle.std.proofs.lemmas.Grind.{common_steps}
use native.Mathlib.Omega.{arith}
use Rattle.categoric_search.proofs.NearKeys.{counted_fit}
use Rattle.categoric_search.proofs.narrow.narrowed.Goals as goal

pub loop-i-init : goal.loop-i-init
loop-i-init c = (refl, below_none _, λ k h q. get_or-replicate 256 k (pos 2147483647) (pos 0) q)

pub loop-i-preserved : goal.loop-i-preserved
loop-i-preserved c =
    let keys = c.args.keys.now in
    let key = get_or keys c.loop-i.i (pos 0) in
    simp (to_z-of_z w64 key (search rules), to_z-of_z w32 key (counted_fit keys c.args.count c.requires.1 c.loop-i.i c.loop-i-test.true))
    (grind (arith, common_steps))
