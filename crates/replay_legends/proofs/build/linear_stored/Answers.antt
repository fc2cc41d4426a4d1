-- `linear_stored` meets its contract. Assumes nothing.
use Rattle.replay_legends.proofs.Asking.{linear-stored-is}
use Rattle.replay_legends.proofs.build.linear_stored.Goals as goal

pub returns : goal.returns
returns c =
    linear-stored-is c.args.row.now c.args.config c.with_linear.ensures c.float-start.ensures c.float-end.ensures
    c.palette_ramp-ramp.ensures
