use Rattle.banded_lanes.proofs.Chunk.{Scanning}
use Rattle.banded_lanes.proofs.scanned.Given as goal

abbrev pub invariant-loop-i : goal.invariant-loop-i
invariant-loop-i l = let b = l.columns in Scanning b.starts.now b.ends.now b.colors.now b.count l.nodata l.lanes l.value l.i l.inside l.result
