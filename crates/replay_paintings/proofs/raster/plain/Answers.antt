-- `raster::plain` meets its contract. Assumes nothing.
use lib.ListN.{length-map}
use Rattle.replay_paintings.proofs.Painting.{plain-is}
use Rattle.replay_paintings.proofs.raster.plain.Goals as goal

pub returns : goal.returns
returns g c = plain-is _ (simp length-map) c.requires c.apply_to_data_scalar.ensures
