-- `apply_lane_edges` meets its contract: each of its three ways ends as the lane rule does. Assumes nothing.
use native.Mathlib.Omega.{arith}
use borrow.Author.Rules.{rules}
use Rattle.banded_lanes.proofs.LaneEdges.{settled_none, settled_finished, settled_edges}
use Rattle.banded_lanes.proofs.apply_lane_edges.Goals as goal

pub returns-then-scan : goal.returns-then-scan
returns-then-scan c =
    let b = c.args.columns in
    settled_finished b.starts.now b.ends.now b.colors.now b.count c.args.u c.args.lanes c.args.value c.requires.1 c.if-scan.true

pub returns-then-columns-eq0 : goal.returns-then-columns-eq0
returns-then-columns-eq0 c =
    let b = c.args.columns in
    settled_none b.starts.now b.ends.now b.colors.now b.count c.args.u c.args.lanes c.args.value c.requires.1 c.if-columns-eq0.true

pub returns : goal.returns
returns c =
    let b = c.args.columns in
    settled_edges b.starts.now b.ends.now b.colors.now b.count c.args.u c.args.lanes c.args.value c.requires.1 (search rules) c.if-scan.false (omega arith)
    c.first.ensures c.last.ensures c.lane_edge_colors.ensures
