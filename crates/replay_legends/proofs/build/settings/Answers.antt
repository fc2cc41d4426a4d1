-- `settings` meets its contract. Assumes nothing.
use Rattle.replay_legends.proofs.Asking.{settings_are}
use Rattle.replay_legends.proofs.build.settings.Goals as goal

pub returns : goal.returns
returns c =
    settings_are c.args.row.now c.optional.ensures c.optional-2.ensures
