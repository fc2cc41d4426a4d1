-- `categories` meets its contract. Assumes nothing.
use mathlib.Core.Path.{◌∙◌, ap₂}
use lib.ListN.{get_or, take}
use Rattle.replay_legends.proofs.Asking.{prefix_fits, prefix_long, categories-palette, categories_list}
use borrow.Author.Rules.{rules}
use Rattle.replay_legends.proofs.build.categories.Goals as goal

pub slice_bounds-keys-end : goal.slice_bounds-keys-end
slice_bounds-keys-end c =
    prefix_fits (get_or c.args.row.now 10 0) c.keys-keys.result c.at_most-key_count.ensures (search rules)

pub slice_bounds-create_categoric_for_value_list_from_ramp-end : goal.slice_bounds-create_categoric_for_value_list_from_ramp-end
slice_bounds-create_categoric_for_value_list_from_ramp-end c =
    prefix_long (get_or c.args.row.now 10 0) c.keys-keys.result c.at_most-key_count.ensures (search rules)

pub returns-then-row-lt-FROM_LIST : goal.returns-then-row-lt-FROM_LIST
returns-then-row-lt-FROM_LIST c =
    c.create_categoric_for_value_list_from_ramp.ensures
    ∙ categories-palette c.args.row.now c.args.config c.if-row-lt-FROM_LIST.true (ap₂ take c.at_most-key_count.ensures c.keys-keys.ensures)
    c.palette_ramp-ramp.ensures

pub slice_bounds-list-end : goal.slice_bounds-list-end
slice_bounds-list-end c =
    prefix_fits (get_or c.args.row.now 2 0) c.words_at-list.result c.at_most-count.ensures (search rules)

pub slice_bounds-create_categoric_for_value_list-end : goal.slice_bounds-create_categoric_for_value_list-end
slice_bounds-create_categoric_for_value_list-end c =
    prefix_long (get_or c.args.row.now 2 0) c.words_at-list.result c.at_most-count.ensures (search rules)

pub slice_bounds-keys-end-2 : goal.slice_bounds-keys-end-2
slice_bounds-keys-end-2 c =
    prefix_fits (get_or c.args.row.now 10 0) c.keys-keys.result c.at_most-key_count.ensures (search rules)

pub slice_bounds-create_categoric_for_value_list-end-2 : goal.slice_bounds-create_categoric_for_value_list-end-2
slice_bounds-create_categoric_for_value_list-end-2 c =
    prefix_long (get_or c.args.row.now 10 0) c.keys-keys.result c.at_most-key_count.ensures (search rules)

pub returns : goal.returns
returns c =
    c.create_categoric_for_value_list.ensures
    ∙ categories_list c.args.row.now c.args.config c.if-row-lt-FROM_LIST.false c.at_most-count.ensures c.words_at-list.ensures
    (ap₂ take c.at_most-key_count.ensures c.keys-keys.ensures)
