-- `raster::lanes` meets its contract: scratch held the mark. Assumes nothing.
use native.Mathlib.Omega.{arith}
use lib.ListN.{length-map}
use Rattle.replay_paintings.proofs.Painting.{lanes_marked}
use Rattle.replay_paintings.proofs.raster.lanes.Goals as goal

pub returns : goal.returns
returns g c = lanes_marked _ (simp length-map) c.requires (grind arith) c.apply_to_data_kernel.ensures
