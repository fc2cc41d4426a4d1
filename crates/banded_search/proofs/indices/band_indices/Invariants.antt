use Prim.Native.Nat.{min}
use Rattle.banded_search.specs.forms.Indices.{BandIndices}
use Rattle.banded_search.proofs.indices.band_indices.Given as goal

abbrev pub invariant-loop-i : goal.invariant-loop-i
invariant-loop-i l = BandIndices l.lanes l.starts (min l.i l.count) l.value l.result
