-- `shift_up` meets its contract: the loop has moved what is above its place. Assumes nothing.
use mathlib.Core.Path.{◌≡◌, sym, ap, ap₂, ◌∙◌}
use Prim.Native.Nat.{ℕ, suc, ◌+◌, ◌-◌}
use native.Mathlib.Omega.{arith}
use borrow.Author.Rules.{rules}
use lib.IntN.{ℤ, pos}
use lib.ListN.{get_or, set}
use mathlib.Core.List.{List}
use Rattle.categoric_build.specs.forms.Insertion.{shifted_up}
use Rattle.categoric_build.proofs.Rooms.{moved_start, moved_turn}
use Rattle.categoric_lists.proofs.Numbers.{back}
use Rattle.categoric_build.proofs.sorted.shift_up.Goals as goal

pub loop-i-init : goal.loop-i-init
loop-i-init c = (search rules, sym (moved_start (pos 0) _ _ (omega arith)), sym (moved_start 0 _ _ (omega arith)))

pub loop-i-preserved : goal.loop-i-preserved
loop-i-preserved c =
    let l = c.loop-i in
    let a = c.args in
    let up : l.i - 1 + 1 ≡ l.i = omega arith in
    let e : l.i ≡ suc (l.i - 1) = omega arith in (
      omega arith,
      ap₂ (λ (n : ℕ) (x : ℤ). set l.keys n x) up (back _ (search rules))
          ∙ ap (λ (r : List ℤ). set r l.i (get_or r (l.i - 1) (pos 0))) l.invariant.1
          ∙ moved_turn (pos 0) l.i (l.i - 1) a.count a.keys.now e (omega arith) (omega arith),
      ap (λ (n : ℕ). set l.colors n (get_or l.colors (l.i - 1) 0)) up
          ∙ ap (λ (r : List ℕ). set r l.i (get_or r (l.i - 1) 0)) l.invariant.2
          ∙ moved_turn 0 l.i (l.i - 1) a.count a.colors.now e (omega arith) (omega arith),
    )

pub returns : goal.returns
returns c =
    let l = c.loop-i in
    let e : l.i ≡ c.args.at = omega arith in
    (l.invariant.1 ∙ ap (λ (n : ℕ). shifted_up n c.args.count c.args.keys.now) e, l.invariant.2 ∙ ap (λ (n : ℕ). shifted_up n c.args.count c.args.colors.now) e)
