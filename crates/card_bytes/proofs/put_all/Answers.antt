-- `put_all` meets its contract. The loop's invariant at i: the first i bytes of the part are laid. Assumes nothing.
use borrow.Author.Rules.{rules}
use native.Mathlib.Omega.{arith}
use Prim.Native.Nat.{ℕ}
use mathlib.Core.Path.{refl, sym, ap, ◌∙◌}
use mathlib.Core.List.{List}
use lib.Seq.{take_all}
use Rattle.card_bytes.specs.Numbers.{overwritten}
use Rattle.card_bytes.proofs.Overwriting.{overwritten_nothing, wrote_more}
use Rattle.card_bytes.proofs.put_all.Goals as goal

pub loop-i-init : goal.loop-i-init
loop-i-init c = (refl, sym (overwritten_nothing c.args.at c.args.bytes.now))

pub loop-i-preserved : goal.loop-i-preserved
loop-i-preserved c = (
  search rules,
  wrote_more c.args.at c.loop-i.i c.args.part.now c.args.bytes.now c.loop-i.invariant.1 (omega arith) c.requires,
)

pub returns : goal.returns
returns c =
    c.loop-i.invariant.1 ∙ ap (λ (r : List ℕ). overwritten c.args.at r c.args.bytes.now) (take_all c.loop-i.i c.args.part.now (omega arith))
