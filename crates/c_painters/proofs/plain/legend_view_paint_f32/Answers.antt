-- `plain::legend_view_paint_f32` meets its contract. Assumes nothing.
use Rattle.c_painters.proofs.Calling.{plain_arguments}
use Rattle.c_painters.proofs.plain.legend_view_paint_f32.Goals as goal

pub returns-in-Err : goal.returns-in-Err
returns-in-Err c = plain_arguments _ _ c.use_refusal.ensures c.in-Err.is c.to_c-in-Err.ensures
