-- `scan` meets its contract. Assumes nothing.
use borrow.Author.Rules.{rules}
use mathlib.Core.List.{[]}
use mathlib.Core.Path.{sym, ap}
use native.Mathlib.Omega.{arith}
use mir.Syntax.{w64}
use mir.ValLaws.{to_z-of_z}
use Rattle.colormapper.specs.Rule.{rule_color}
use Rattle.categoric_table.specs.Rule.{categoric_rule_colors}
use Rattle.categoric_keys.proofs.FirstKey.{same_bits, found_at, found_nowhere}
use Rattle.categoric_keys.proofs.Keys.scan.Goals as goal

pub returns-then-self-i : goal.returns-then-self-i
returns-then-self-i c =
    let k = c.args.self in
    let before = simp (to_z-of_z w64 c.args.key c.ranges.key) at c.loop-i.invariant in
    let same = same_bits w64 _ c.args.key (search rules) c.ranges.key c.if-self-i.true in
    sym (ap (rule_color (categoric_rule_colors [] k.colors.now c.args.nodata))
    (found_at k.keys.now c.args.key k.count c.loop-i.i c.loop-i-test.true same before))

pub returns : goal.returns
returns c =
    let k = c.args.self in
    let before = simp (to_z-of_z w64 c.args.key c.ranges.key) at c.loop-i.invariant in
    sym (ap (rule_color (categoric_rule_colors [] k.colors.now c.args.nodata))
    (found_nowhere k.keys.now c.args.key k.count (λ j q. before j (omega arith))))
