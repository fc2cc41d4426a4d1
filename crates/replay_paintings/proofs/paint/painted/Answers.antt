-- `paint::painted` meets its contract. Assumes nothing.
use lib.ListN.{get_or}
use Rattle.replay_paintings.proofs.Painting.{at_most_40, all_are}
use Rattle.replay_paintings.proofs.paint.painted.Goals as goal

pub values-values-requires : goal.values-values-requires
values-values-requires c = at_most_40 (get_or c.args.row.now 9 0) c.at_most-count.ensures

pub plain-plain-requires : goal.plain-plain-requires
plain-plain-requires c = at_most_40 (get_or c.args.row.now 9 0) c.at_most-count.ensures

pub lanes-lanes_4-requires : goal.lanes-lanes_4-requires
lanes-lanes_4-requires c = at_most_40 (get_or c.args.row.now 9 0) c.at_most-count.ensures

pub lanes-lanes_8-requires : goal.lanes-lanes_8-requires
lanes-lanes_8-requires c = at_most_40 (get_or c.args.row.now 9 0) c.at_most-count.ensures

pub lanes-lanes_16-requires : goal.lanes-lanes_16-requires
lanes-lanes_16-requires c = at_most_40 (get_or c.args.row.now 9 0) c.at_most-count.ensures

pub returns : goal.returns
returns c =
    all_are c.args.row.now c.view_of-view.ensures c.at_most-count.ensures c.nodata-none.ensures c.floats-samples.ensures
    c.values-values.ensures c.plain-plain.ensures c.lanes-lanes_4.ensures c.lanes-lanes_8.ensures c.lanes-lanes_16.ensures
