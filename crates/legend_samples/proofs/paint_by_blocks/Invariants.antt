use Prim.Native.Nat.{◌-◌}
use Rattle.legend_view.specs.Borrowed.{borrowed_legend}
use Rattle.legend_samples.proofs.Blocked.{Blocked}
use Rattle.legend_samples.proofs.paint_by_blocks.Given as goal

abbrev pub invariant-loop-from : goal.invariant-loop-from
invariant-loop-from g l = Blocked g.S.Sample.as_f32 (borrowed_legend l.view) l.nodata l.lanes l.src l.n l.from l.out

abbrev pub decreases-loop-from : goal.decreases-loop-from
decreases-loop-from g l = l.n - l.from
