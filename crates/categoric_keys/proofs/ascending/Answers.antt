-- `ascending` meets its contract. Assumes nothing.
use borrow.Author.Rules.{rules}
use mathlib.Core.Path.{sym, ◌∙◌}
use Prim.Native.Nat.{◌-◌}
use native.Mathlib.Omega.{arith}
use lib.IntN.{pos}
use lib.ListN.{get_or}
use mir.Syntax.{w64}
use mir.Val.{of_z, to_z}
use mir.ValLaws.{to_z-of_z}
use Rattle.categoric_lists.proofs.Numbers.{le_is}
use Rattle.categoric_keys.proofs.Ascent.{few, stops, goes_on, all_ascend}
use Rattle.categoric_keys.proofs.ascending.Goals as goal

pub loop-i-init : goal.loop-i-init
loop-i-init c = few c.args.keys.now 1 (omega arith)

pub returns-then-keys-i : goal.returns-then-keys-i
returns-then-keys-i c =
    let keys = c.args.keys.now in
    let i = c.loop-i.i in
    let before = to_z w64 (of_z w64 (get_or keys (i - 1) (pos 0))) in
    let here = to_z w64 (of_z w64 (get_or keys i (pos 0))) in
    let fell = sym (le_is here before) ∙ c.if-keys-i.true in
    sym (stops keys i (omega arith) (to_z-of_z w64 _ (search rules)) (to_z-of_z w64 _ (search rules)) _ c.loop-i-test.true fell)

pub loop-i-preserved : goal.loop-i-preserved
loop-i-preserved c =
    let keys = c.args.keys.now in
    let i = c.loop-i.i in
    let before = to_z w64 (of_z w64 (get_or keys (i - 1) (pos 0))) in
    let here = to_z w64 (of_z w64 (get_or keys i (pos 0))) in
    let up = sym (le_is here before) ∙ c.if-keys-i.false in
    goes_on keys i (omega arith) (to_z-of_z w64 _ (search rules)) (to_z-of_z w64 _ (search rules)) c.loop-i.invariant up

pub returns : goal.returns
returns c = sym (all_ascend c.args.keys.now c.loop-i.i _ c.loop-i-test.false c.loop-i.auto.i-end c.loop-i.invariant)
