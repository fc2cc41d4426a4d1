-- `bands_given` meets its contract. Assumes nothing.
use Rattle.replay_legends.proofs.Asking.{given_is}
use Rattle.replay_legends.proofs.build.bands_given.Goals as goal

pub returns : goal.returns
returns c =
    given_is c.args.row.now c.args.config c.with_banded.ensures c.bands-bands.ensures c.at_most-count.ensures
