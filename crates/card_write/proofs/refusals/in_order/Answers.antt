-- `in_order` meets its contract. Assumes nothing.
use borrow.Author.Rules.{rules}
use Rattle.legend.proofs.Stored.{categories-stored}
use Rattle.card_write.proofs.refusals.in_order.Goals as goal

pub keys_in_order-requires : goal.keys_in_order-requires
keys_in_order-requires c = ((categories-stored c.args.legend c.requires c.in-CategoricNumeric.is).0, search rules)

pub table_of_keys-requires : goal.table_of_keys-requires
table_of_keys-requires c = (categories-stored c.args.legend c.requires c.in-CategoricNumeric.is).0
