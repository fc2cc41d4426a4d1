-- `ramps::legend_get_color_simd` meets its contract. Assumes nothing.
use native.Mathlib.Omega.{arith}
use Rattle.lists.proofs.LanesOf.{lane_at_lem}
use Rattle.c_queries.proofs.ramps.legend_get_color_simd.Goals as goal

pub returns : goal.returns
returns c = lane_at_lem c.get_color_simd-colors.ensures 0 0 (omega arith)
