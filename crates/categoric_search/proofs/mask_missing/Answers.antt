-- `mask_missing` meets its contract. Assumes nothing.
use borrow.Author.Rules.{rules}
use mathlib.Core.Bool.{Bool, cond}
use mathlib.Core.Path.{ap, ◌∙◌}
use native.Mathlib.Omega.{arith}
use lib.ListN.{get_or}
use lib.IntN.{pos}
use mir.Syntax.{w32}
use Rattle.categoric_keys.proofs.FirstKey.{by_bits}
use Rattle.lists.proofs.Filling.{filling_turn}
use Rattle.categoric_search.proofs.mask_missing.Goals as goal

pub loop-i-preserved : goal.loop-i-preserved
loop-i-preserved c =
    filling_turn c.loop-i.invariant (omega arith) (omega arith)
    (c.pick.ensures ∙ ap (λ (b : Bool). cond b (get_or c.args.words c.loop-i.i 0) c.args.nodata)
    (by_bits w32 (get_or c.args.found c.loop-i.i (pos 0)) (get_or c.args.key c.loop-i.i (pos 0)) (search rules) (search rules)))
