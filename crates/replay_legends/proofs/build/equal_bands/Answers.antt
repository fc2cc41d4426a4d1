-- `equal_bands` meets its contract. Assumes nothing.
use mathlib.Core.Path.{◌∙◌}
use lib.ListN.{get_or}
use Rattle.replay_legends.proofs.Asking.{prefix_fits, prefix_long, equal_palette, equal_list}
use borrow.Author.Rules.{rules}
use Rattle.replay_legends.proofs.build.equal_bands.Goals as goal

pub returns-then-row-lt-FROM_LIST : goal.returns-then-row-lt-FROM_LIST
returns-then-row-lt-FROM_LIST c =
    c.create_banded_from_ramp.ensures
    ∙ equal_palette c.args.row.now c.args.config c.if-row-lt-FROM_LIST.true c.wide-bands.ensures c.float-start.ensures c.float-end.ensures
    c.palette_ramp-ramp.ensures

pub slice_bounds-list-end : goal.slice_bounds-list-end
slice_bounds-list-end c =
    prefix_fits (get_or c.args.row.now 2 0) c.words_at-list.result c.at_most-count.ensures (search rules)

pub slice_bounds-create_banded-end : goal.slice_bounds-create_banded-end
slice_bounds-create_banded-end c =
    prefix_long (get_or c.args.row.now 2 0) c.words_at-list.result c.at_most-count.ensures (search rules)

pub returns : goal.returns
returns c =
    c.create_banded.ensures
    ∙ equal_list c.args.row.now c.args.config c.if-row-lt-FROM_LIST.false c.at_most-count.ensures c.words_at-list.ensures c.wide-bands.ensures
    c.float-start.ensures c.float-end.ensures
