-- `Color::pair_at` meets its contract: it reads the two bytes that `pair_at` names. Assumes nothing.
use Rattle.color.specs.Hex.{pair_at}
use Rattle.color.proofs.Color.pair_at.Goals as goal

pub returns : goal.returns
unfolding pair_at
returns c = c.parse_hex.ensures
