-- `apply_to_data_kernel` meets its contract. Assumes nothing.
use Rattle.std.proofs.Common.{rules}
use lib.ListN.{length-map}
use Rattle.legend_kernel.proofs.Calls.{lanes_free, scratch_free, lanes_refused, lanes-done}
use Rattle.legend_kernel.proofs.apply_to_data_kernel.Goals as goal

pub returns-in_err-lane_refusal : goal.returns-in_err-lane_refusal
returns-in_err-lane_refusal g c =
    lanes_refused _ _ (simp length-map) c.stored_refusal.ensures c.lane_refusal.ensures c.in_err-lane_refusal.was (search rules)

pub paint-requires : goal.paint-requires
paint-requires g c = lanes_free _ _ _ _ _ c.lane_refusal.ensures c.in_ok-lane_refusal.was _ c.stored_refusal.ensures

pub update_scratch-requires : goal.update_scratch-requires
update_scratch-requires g c = scratch_free _ _ _ _ _ c.lane_refusal.ensures c.in_ok-lane_refusal.was

pub returns : goal.returns
returns g c =
    lanes-done _ _ (simp length-map) c.stored_refusal.ensures c.lane_refusal.ensures c.in_ok-lane_refusal.was
    c.simd_supported.ensures c.paint.ensures c.update_scratch.ensures
