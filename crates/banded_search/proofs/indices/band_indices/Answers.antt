-- `band_indices` meets its contract: the invariant says that each lane's index counts the starts passed. Assumes nothing.
use Prim.Native.Nat.{ℕ, ◌+◌, min}
use mathlib.Core.Path.{◌≡◌, subst}
use native.Mathlib.Omega.{arith}
use Rattle.banded_search.proofs.Indexing.{indexed_start, indexed_turn}
use Rattle.banded_search.specs.forms.Indices.{BandIndices}
use Rattle.banded_search.proofs.indices.band_indices.Goals as goal

pub loop-i-init : goal.loop-i-init
loop-i-init c = let a = c.args in indexed_start a.lanes a.starts.now a.value (min 1 a.count) (omega arith) (omega arith)

pub loop-i-preserved : goal.loop-i-preserved
loop-i-preserved c =
    let a = c.args in
    let i = c.loop-i.i in
    let now : min i a.count ≡ i = omega arith in
    let then : i + 1 ≡ min (i + 1) a.count = omega arith in
    let so_far = subst (λ (n : ℕ). BandIndices a.lanes a.starts.now n a.value c.loop-i.result) now c.loop-i.invariant in
    subst (λ (n : ℕ). BandIndices a.lanes a.starts.now n a.value c.advance_indices-next.result) then
    (indexed_turn a.lanes a.starts.now a.value c.advance_indices-next.result (omega arith) (omega arith) so_far c.advance_indices-next.ensures)

pub returns : goal.returns
returns c =
    let a = c.args in
    let whole : min c.loop-i.i a.count ≡ a.count = omega arith in
    subst (λ (n : ℕ). BandIndices a.lanes a.starts.now n a.value c.loop-i.result) whole c.loop-i.invariant
