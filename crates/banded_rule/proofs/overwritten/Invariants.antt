use mathlib.Core.Bool.{cond}
use lib.ListN.{get_or}
use lib.Ieee.{nan}
use Rattle.lists.proofs.Filling.{Filling}
use Rattle.banded_columns.specs.Band.{holds}
use Rattle.banded_rule.proofs.overwritten.Given as goal

abbrev pub invariant-loop-i : goal.invariant-loop-i
invariant-loop-i l = Filling 0 (λ k. cond (holds l.band (get_or l.value k nan)) l.band.color (get_or l.words k 0)) 16 16 l.i l.result
