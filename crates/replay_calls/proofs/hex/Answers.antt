-- `hex` meets its contract. Assumes nothing.
use lib.ListN.{get_or}
use Rattle.replay_calls.specs.Rows.{hex_row}
use Rattle.replay_calls.proofs.Calls.{text_fits, text_long}
use borrow.Author.Rules.{rules}
use Rattle.replay_calls.proofs.hex.Goals as goal

pub slice_bounds-text-end : goal.slice_bounds-text-end
slice_bounds-text-end c =
    text_fits (get_or c.args.row.now 10 0) c.bytes-text.result c.at_most-count.ensures (search rules)

pub slice_bounds-from_hex_string-end : goal.slice_bounds-from_hex_string-end
slice_bounds-from_hex_string-end c =
    text_long (get_or c.args.row.now 10 0) c.bytes-text.result c.at_most-count.ensures (search rules)

pub returns : goal.returns
unfolding hex_row
returns c =
    cc (c.with_hex.ensures, c.asked.ensures, c.from_hex_string-color.ensures, c.at_most-count.ensures, c.bytes-text.ensures)
