-- `lookups` meets its contract. Assumes nothing.
use native.Mathlib.Omega.{arith}
use mathlib.Core.Path.{◌≡◌}
use Rattle.replay_calls.specs.Rows.{lookup_row, looked_up}
use Rattle.lookup.specs.Entries.{plain_entry, lane_entry}
use Rattle.replay_legends.proofs.Asking.{answered}
use Rattle.replay_calls.proofs.Calls.{looked_up_lem}
use Rattle.lists.proofs.LanesOf.{lane_at_lem, lanes-length}
use Rattle.replay_calls.proofs.lookups.Goals as goal

pub returns : goal.returns
unfolding lookup_row
returns c =
    let f = c.fractions-fractions in
    let cmap = c.unwrap_or-ramp.result.cmap in
    let plain : c.get_colors-plain.result ≡ looked_up plain_entry cmap f.result =
    looked_up_lem plain_entry cmap f.result (lanes-length c.get_colors-plain.ensures (omega arith)) (lane_at_lem c.get_colors-plain.ensures 0) in
    let lanes : c.get_color_simd-lanes.result ≡ looked_up lane_entry cmap f.result =
    looked_up_lem lane_entry cmap f.result (lanes-length c.get_color_simd-lanes.ensures (omega arith)) (lane_at_lem c.get_color_simd-lanes.ensures 0) in
    cc (
      c.put.ensures,
      c.put-with_plain.ensures,
      c.put-with_ramp.ensures,
      c.with_answer-answered.ensures,
      c.asked.ensures,
      c.fractions-fractions.ensures,
      c.unwrap_or-ramp.ensures,
      c.default.ensures,
      c.and.ensures,
      answered c.ramp-made.result,
      c.ramp-made.ensures,
    )
