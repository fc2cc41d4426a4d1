use mathlib.Core.Bool.{cond}
use lib.ListN.{get_or}
use lib.IntN.{pos}
use Rattle.categoric_keys.specs.Rule.{eq_z}
use Rattle.lists.proofs.Filling.{Filling}
use Rattle.categoric_search.proofs.mask_missing.Given as goal

abbrev pub invariant-loop-i : goal.invariant-loop-i
invariant-loop-i l =
    Filling 0 (λ k. cond (eq_z (get_or l.found k (pos 0)) (get_or l.key k (pos 0))) (get_or l.words k 0) l.nodata) 16 16 l.i l.result
