-- `all_held` meets its contract: the invariant says that the flag tells of the lanes passed. Assumes nothing.
use Prim.Native.Nat.{ℕ}
use mathlib.Core.Bool.{Bool, ◌&&◌}
use mathlib.Core.Path.{◌≡◌, refl, sym, ap, ◌∙◌}
use native.Mathlib.Omega.{arith}
use lib.Ieee.{lt, le, nan}
use lib.ListN.{get_or}
use Rattle.banded_lanes.proofs.Chunk.{below_more}
use Rattle.banded_lanes.specs.forms.Scanning.{all_below}
use Rattle.lists.proofs.Each.{and_and}
use Rattle.banded_search.specs.forms.Indices.{held_at}
use Rattle.banded_search.proofs.all_held.Goals as goal

pub loop-i-init : goal.loop-i-init
unfolding all_below
loop-i-init c = refl

pub loop-i-preserved : goal.loop-i-preserved
loop-i-preserved c =
    let a = c.args in
    let i = c.loop-i.i in
    let f : ℕ → Bool = λ k. held_at a.starts.now a.ends.now (get_or a.indices k 0) (get_or a.value k nan) in
    let s = le (get_or a.starts.now (get_or a.indices i 0) nan) (get_or a.value i nan) in
    let e = lt (get_or a.value i nan) (get_or a.ends.now (get_or a.indices i 0) nan) in
    ap (λ (t : Bool). (t && s) && e) c.loop-i.invariant ∙ sym (and_and (all_below i f) s e) ∙ below_more i f

pub returns : goal.returns
returns c =
    let a = c.args in
    let e : c.loop-i.i ≡ a.lanes = omega arith in
    c.loop-i.invariant ∙ ap (λ (n : ℕ). all_below n (λ k. held_at a.starts.now a.ends.now (get_or a.indices k 0) (get_or a.value k nan))) e
