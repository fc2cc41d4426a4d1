-- The view shows the legend, and f32 samples stay as they are. Assumes nothing.
use Rattle.std.proofs.lemmas.List.{map-id}
use Rattle.legend_apply.proofs.apply_to_data_scalar.Goals as goal

pub returns : goal.returns
returns c = rw (map-id, c.view_of-view.ensures) at c.apply_to_data_scalar.ensures
