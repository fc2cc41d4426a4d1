-- The claim over the cases: antt works each out. Assumes nothing.
use lib.Dec.{T}
use lib.Ieee.{add, sub, div, lt, le, of_int, of_bits, is_nan}
use Rattle.lists.specs.Each.{each}
use Rattle.banded_columns.specs.Band.{last_of}
use Rattle.banded_rule.specs.PlainRule.{first_band, edges, plain_rule}
use Rattle.banded_lanes.specs.Edges.{edged}
use Rattle.banded_lanes.specs.LaneRule.{swept, chunk_colors, lane_colors}
use Rattle.banded_columns.specs.Order.{each_after, each_next}
use Rattle.banded_lanes.specs.Conditions.{first_and_last}
use Rattle.claim_chunking.specs.Cases.{case_holds, all_cases_hold, cases}

pub all_hold : T (all_cases_hold cases)
unfolding all_cases_hold case_holds cases last_of first_band edges plain_rule edged swept chunk_colors lane_colors each each_after each_next first_and_last add sub div
    lt le is_nan of_int of_bits
all_hold = tt
