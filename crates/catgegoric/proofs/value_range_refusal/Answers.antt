-- `value_range_refusal` meets its contract: a range that passes is not too wide. Assumes nothing.
use Rattle.std.specs.Prelude.{Ok}
use Rattle.catgegoric.specs.Made.{wide_refusal}
use Rattle.catgegoric.proofs.RangeKeys.{passes, narrow}
use Rattle.catgegoric.proofs.value_range_refusal.Goals as goal

pub range_count-requires : goal.range_count-requires
range_count-requires c =
    let a = c.args in
    let fs = c.ranges.start.sfits in
    let fe = c.ranges.end.sfits in
    let w = passes a.start a.end fs fe (λ x y. wide_refusal x y (Ok tt)) c.wide_refusal.ensures c.in_ok-wide_refusal.was in
    narrow a.start a.end fs fe w
