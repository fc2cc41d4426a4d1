-- `categories_stored` meets its contract. Assumes nothing.
use Rattle.replay_legends.proofs.Asking.{categories-stored-is}
use Rattle.replay_legends.proofs.build.categories_stored.Goals as goal

pub returns : goal.returns
returns c =
    categories-stored-is c.args.row.now c.args.config c.with_categoric.ensures c.keys-keys.ensures c.colors-colors.ensures
    c.at_most.ensures c.table-lookup.ensures c.at_most-2.ensures
