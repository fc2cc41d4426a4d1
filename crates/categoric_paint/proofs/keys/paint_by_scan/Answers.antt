-- `paint_by_scan` meets its contract. Assumes nothing.
use borrow.Author.Rules.{rules}
use native.Mathlib.Omega.{arith}
use mathlib.Core.Path.{refl}
use lib.Ieee.{nan}
use Rattle.painting.proofs.Steps.{plain_turn, plain_end}
use Rattle.categoric_paint.proofs.keys.paint_by_scan.Goals as goal

pub loop-i-init : goal.loop-i-init
loop-i-init c = record { upto = search rules; same = search rules; is = refl }

pub loop-i-preserved : goal.loop-i-preserved
loop-i-preserved c = plain_turn nan c.loop-i.invariant (omega arith) c.key_sample.ensures

pub returns : goal.returns
returns c = plain_end c.loop-i.invariant (omega arith)
