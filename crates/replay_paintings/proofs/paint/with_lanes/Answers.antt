-- `with_lanes` meets its contract. Assumes nothing.
use Rattle.replay_paintings.proofs.paint.with_lanes.Goals as goal

pub returns : goal.returns
returns c = cc (c.put.ensures, c.put-with_words.ensures)
