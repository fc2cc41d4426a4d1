-- `CategoricNumeric::for_value_range` meets its contract: past the checks the record is made of the keys of the range and the colours. Assumes nothing.
use Rattle.std.specs.Prelude.{◌≡◌, Ok, Err}
use Rattle.std.proofs.Common.{rules}
use mathlib.Core.Path.{refl, sym, ◌∙◌}
use native.Mathlib.Omega.{arith}
use lib.ListN.{length}
use Rattle.categoric_lists.specs.Range.{range_keys}
use Rattle.catgegoric.specs.Made.{value_range_refusal}
use Rattle.catgegoric.proofs.Making.{range_checks, range-wide, range_match, built, range_refused}
use Rattle.catgegoric.proofs.RangeKeys.{same_bounds, passes, narrow, count-is, count_few, each_fits, keys_counted, counted_keys}
use Rattle.catgegoric.proofs.CategoricNumeric.for_value_range.Goals as goal

pub returns-in_err-value_range_refusal : goal.returns-in_err-value_range_refusal
returns-in_err-value_range_refusal c =
    let a = c.args in
    let n = length a.colors.now in
    let fs = c.ranges.start.sfits in
    let fe = c.ranges.end.sfits in
    let e : value_range_refusal a.start a.end n (Ok tt) ≡ Err c.in_err-value_range_refusal.field-0.0 =
    sym (same_bounds a.start a.end fs fe (λ x y. value_range_refusal x y n (Ok tt))) ∙ sym c.value_range_refusal.ensures ∙ c.in_err-value_range_refusal.was in
    let r = range_refused a.start a.end a.colors.now e in
    search rules

pub key_count-count-requires : goal.key_count-count-requires
key_count-count-requires c =
    let a = c.args in
    let n = length a.colors.now in
    let fs = c.ranges.start.sfits in
    let fe = c.ranges.end.sfits in
    let ok = passes a.start a.end fs fe (λ x y. value_range_refusal x y n (Ok tt)) c.value_range_refusal.ensures c.in_ok-value_range_refusal.was in
    let w = range-wide a.start a.end n ok in
    narrow a.start a.end fs fe w

pub range_keys-keys-requires : goal.range_keys-keys-requires
range_keys-keys-requires c =
    let a = c.args in
    let n = length a.colors.now in
    let fs = c.ranges.start.sfits in
    let fe = c.ranges.end.sfits in
    let ok = passes a.start a.end fs fe (λ x y. value_range_refusal x y n (Ok tt)) c.value_range_refusal.ensures c.in_ok-value_range_refusal.was in
    let w = range-wide a.start a.end n ok in
    (count_few a.start a.end fs fe w c.key_count-count.ensures, each_fits a.start a.end fs fe w c.key_count-count.ensures)

pub slice_bounds-keys-end : goal.slice_bounds-keys-end
slice_bounds-keys-end c =
    let a = c.args in
    let n = length a.colors.now in
    let fs = c.ranges.start.sfits in
    let fe = c.ranges.end.sfits in
    let ok = passes a.start a.end fs fe (λ x y. value_range_refusal x y n (Ok tt)) c.value_range_refusal.ensures c.in_ok-value_range_refusal.was in
    let w = range-wide a.start a.end n ok in
    (keys_counted a.start a.end fs fe w c.key_count-count.ensures c.range_keys-keys.ensures).0

pub slice_bounds-create-end : goal.slice_bounds-create-end
slice_bounds-create-end c =
    let a = c.args in
    let n = length a.colors.now in
    let fs = c.ranges.start.sfits in
    let fe = c.ranges.end.sfits in
    let ok = passes a.start a.end fs fe (λ x y. value_range_refusal x y n (Ok tt)) c.value_range_refusal.ensures c.in_ok-value_range_refusal.was in
    let w = range-wide a.start a.end n ok in
    (keys_counted a.start a.end fs fe w c.key_count-count.ensures c.range_keys-keys.ensures).1

pub create-requires : goal.create-requires
create-requires c =
    let a = c.args in
    let n = length a.colors.now in
    let fs = c.ranges.start.sfits in
    let fe = c.ranges.end.sfits in
    let ok = passes a.start a.end fs fe (λ x y. value_range_refusal x y n (Ok tt)) c.value_range_refusal.ensures c.in_ok-value_range_refusal.was in
    let w = range-wide a.start a.end n ok in
    let few = count_few a.start a.end fs fe w c.key_count-count.ensures in
    let all = (keys_counted a.start a.end fs fe w c.key_count-count.ensures c.range_keys-keys.ensures).1 in
    (omega arith, omega (arith, count-is a.start a.end fs fe w c.key_count-count.ensures, range_match a.start a.end n ok))

pub returns : goal.returns
returns c =
    let a = c.args in
    let n = length a.colors.now in
    let fs = c.ranges.start.sfits in
    let fe = c.ranges.end.sfits in
    let ok = passes a.start a.end fs fe (λ x y. value_range_refusal x y n (Ok tt)) c.value_range_refusal.ensures c.in_ok-value_range_refusal.was in
    let w = range-wide a.start a.end n ok in
    built (value_range_refusal a.start a.end n) (range_checks a.start a.end n) (range_keys a.start a.end) a.colors.now ok
    (counted_keys a.start a.end fs fe w c.key_count-count.ensures c.range_keys-keys.ensures)
    refl c.create.ensures
