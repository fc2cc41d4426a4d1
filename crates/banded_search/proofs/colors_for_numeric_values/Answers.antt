-- `colors_for_numeric_values` meets its contract: the colour at the counted index over that of the edges is the plain rule. Assumes nothing.
use mathlib.Core.Path.{sym, ◌∙◌}
use native.Mathlib.Omega.{arith}
use lib.Ieee.{nan}
use lib.ListN.{get_or, length-replicate, get_or-replicate}
use Rattle.lists.proofs.LanesOf.{lane_at_lem, lanes_agree, lanes_all}
use Rattle.banded_rule.proofs.Forms.{plain-none}
use Rattle.banded_search.proofs.OneBand.{plain_at_index}
use Rattle.banded_search.proofs.colors_for_numeric_values.Goals as goal

pub returns-then-columns-eq0 : goal.returns-then-columns-eq0
returns-then-columns-eq0 c =
    let a = c.args in
    let b = a.columns in
    lanes_all 0 0 (length-replicate 16 a.u.nodata)
    (λ k q.
    get_or-replicate 16 k a.u.nodata 0 q
    ∙ sym (plain-none b.starts.now b.ends.now b.colors.now b.count a.u (get_or a.value k nan) c.if-columns-eq0.true))

pub returns : goal.returns
returns c =
    let a = c.args in
    let b = a.columns in
    lanes_agree c.colors_at.ensures
    (λ k q.
    plain_at_index b.starts.now b.ends.now b.colors.now b.count a.u (get_or a.value k nan) (omega arith) c.requires
    (lane_at_lem c.band_indices-indices.ensures.counted 0 k q)
    c.first.ensures c.last.ensures (c.edge_colors-edged.ensures k q))
