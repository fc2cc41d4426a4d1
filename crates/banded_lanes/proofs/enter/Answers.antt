-- `enter` meets its contract: the loop replaces the lanes' places of both arrays, and its flag tests each lane passed. Assumes nothing.
use Prim.Native.Nat.{ℕ}
use mathlib.Core.Path.{ap₂, ◌≡◌, refl, ap, ◌∙◌}
use mathlib.Core.Bool.{Bool, false, cond, ◌&&◌, ◌||◌}
use native.Mathlib.Omega.{arith}
use lib.ListN.{get_or}
use lib.Ieee.{nan}
use Rattle.banded_columns.specs.Band.{holds}
use Rattle.banded_lanes.specs.forms.Scanning.{all_below}
use Rattle.lists.proofs.LanesOf.{lanes-length}
use Rattle.banded_lanes.proofs.Updating.{updating_start, updating_turn, updating_end}
use Rattle.banded_lanes.proofs.Chunk.{below_more}
use Rattle.banded_lanes.proofs.enter.Goals as goal

pub loop-i-init : goal.loop-i-init
unfolding all_below
loop-i-init c = (updating_start, updating_start, refl)

pub loop-i-preserved : goal.loop-i-preserved
loop-i-preserved c =
    let a = c.args in
    let l = c.loop-i in
    let held = c.holds-held.ensures in
    let entered = ap₂ (λ (x y : Bool). x || y) (l.invariant.1.rest l.i (omega arith)) held in
    let word = c.pick.ensures ∙ ap₂ (λ (t : Bool) (w : ℕ). cond t a.band.color w) held (l.invariant.0.rest l.i (omega arith)) in (
      updating_turn l.invariant.0 (omega arith) (omega (arith, lanes-length c.requires.1 c.requires.0)) word,
      updating_turn l.invariant.1 (omega arith) (omega (arith, lanes-length c.requires.2 c.requires.0)) entered,
      ap₂ (λ (x y : Bool). x && y) l.invariant.2 entered ∙ below_more l.i (λ k. get_or a.inside.now k false || holds a.band (get_or a.value.now k nan)),
    )

pub returns : goal.returns
returns c =
    let a = c.args in
    let l = c.loop-i in
    let e : l.i ≡ a.lanes = omega arith in
    record {
      colored = updating_end c.requires.1 c.requires.0 l.invariant.0 (omega arith);
      entered = updating_end c.requires.2 c.requires.0 l.invariant.1 (omega arith);
      all_inside = l.invariant.2 ∙ ap (λ (n : ℕ). all_below n (λ k. get_or a.inside.now k false || holds a.band (get_or a.value.now k nan))) e;
    }
