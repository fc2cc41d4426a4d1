-- `ramp` meets its contract. Assumes nothing.
use mathlib.Core.Path.{◌∙◌}
use lib.ListN.{get_or}
use Rattle.replay_legends.proofs.Asking.{prefix_fits, prefix_long, ramp-palette, ramp_list}
use Rattle.colormapper.specs.Settings.{no_settings}
use borrow.Author.Rules.{rules}
use Rattle.replay_legends.proofs.build.ramp.Goals as goal

pub returns-then-row-lt-FROM_LIST : goal.returns-then-row-lt-FROM_LIST
returns-then-row-lt-FROM_LIST c =
    c.create_for_preset.ensures ∙ ramp-palette c.args.row.now no_settings c.if-row-lt-FROM_LIST.true c.wide.ensures

pub slice_bounds-list-end : goal.slice_bounds-list-end
slice_bounds-list-end c =
    prefix_fits (get_or c.args.row.now 2 0) c.words_at-list.result c.at_most-count.ensures (search rules)

pub slice_bounds-create-end : goal.slice_bounds-create-end
slice_bounds-create-end c =
    prefix_long (get_or c.args.row.now 2 0) c.words_at-list.result c.at_most-count.ensures (search rules)

pub returns : goal.returns
returns c =
    c.create.ensures ∙ ramp_list c.args.row.now no_settings c.if-row-lt-FROM_LIST.false c.at_most-count.ensures c.words_at-list.ensures
