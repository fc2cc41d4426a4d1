use Rattle.std.proofs.Common.{◌≡◌, map, take, length}
use Rattle.legend_samples.proofs.block_as_f32.Given as goal

abbrev pub invariant-loop-i : goal.invariant-loop-i
invariant-loop-i g l = (length l.result ≡ 256) × (take l.i l.result ≡ map g.S.Sample.as_f32 (take l.i l.src))
