-- `lanes::legend_view_paint_lanes_i16` meets its contract. Assumes nothing.
use Rattle.c_painters.proofs.Calling.{lane_arguments}
use Rattle.c_painters.proofs.lanes.legend_view_paint_lanes_i16.Goals as goal

pub returns-in-Err : goal.returns-in-Err
returns-in-Err c = lane_arguments _ _ c.use_refusal.ensures c.in-Err.is c.to_c-in-Err.ensures
