-- `CategoricNumeric::for_value_range_from_ramp` meets its contract: past the checks the record is made of the keys of the range and their colours. Assumes
-- nothing.
use Rattle.std.specs.Prelude.{◌≡◌, Ok, Err}
use Rattle.std.proofs.Common.{rules}
use mathlib.Core.Path.{sym, ap, ◌∙◌}
use native.Mathlib.Omega.{arith}
use Rattle.lists.specs.Padded.{padded}
use Rattle.colormap.specs.Positions.{ramp_colors}
use Rattle.categoric_lists.specs.Whole.{whole}
use Rattle.categoric_lists.specs.Range.{range_count, range_keys}
use Rattle.catgegoric.specs.Made.{wide_refusal}
use Rattle.catgegoric.proofs.Making.{wide_checks, built, counted_list, counted_length, length-ramp, range_ramp_refused}
use Rattle.catgegoric.proofs.RangeKeys.{same_bounds, passes, narrow, count-is, count_few, each_fits, keys_counted, counted_keys}
use Rattle.catgegoric.proofs.CategoricNumeric.for_value_range_from_ramp.Goals as goal

pub returns-in_err-wide_refusal : goal.returns-in_err-wide_refusal
returns-in_err-wide_refusal c =
    let a = c.args in
    let fs = c.ranges.start.sfits in
    let fe = c.ranges.end.sfits in
    let e : wide_refusal a.start a.end (Ok tt) ≡ Err c.in_err-wide_refusal.field-0.0 =
    sym (same_bounds a.start a.end fs fe (λ x y. wide_refusal x y (Ok tt))) ∙ sym c.wide_refusal.ensures ∙ c.in_err-wide_refusal.was in
    let r = range_ramp_refused a.start a.end a.cmap.now e in
    search rules

pub key_count-count-requires : goal.key_count-count-requires
key_count-count-requires c =
    let a = c.args in
    let fs = c.ranges.start.sfits in
    let fe = c.ranges.end.sfits in
    let w = passes a.start a.end fs fe (λ x y. wide_refusal x y (Ok tt)) c.wide_refusal.ensures c.in_ok-wide_refusal.was in
    narrow a.start a.end fs fe w

pub range_keys-keys-requires : goal.range_keys-keys-requires
range_keys-keys-requires c =
    let a = c.args in
    let fs = c.ranges.start.sfits in
    let fe = c.ranges.end.sfits in
    let w = passes a.start a.end fs fe (λ x y. wide_refusal x y (Ok tt)) c.wide_refusal.ensures c.in_ok-wide_refusal.was in
    (count_few a.start a.end fs fe w c.key_count-count.ensures, each_fits a.start a.end fs fe w c.key_count-count.ensures)

pub ramp_colors-words-requires : goal.ramp_colors-words-requires
ramp_colors-words-requires c =
    let a = c.args in
    let fs = c.ranges.start.sfits in
    let fe = c.ranges.end.sfits in
    let w = passes a.start a.end fs fe (λ x y. wide_refusal x y (Ok tt)) c.wide_refusal.ensures c.in_ok-wide_refusal.was in
    count_few a.start a.end fs fe w c.key_count-count.ensures

pub slice_bounds-keys-end : goal.slice_bounds-keys-end
slice_bounds-keys-end c =
    let a = c.args in
    let fs = c.ranges.start.sfits in
    let fe = c.ranges.end.sfits in
    let w = passes a.start a.end fs fe (λ x y. wide_refusal x y (Ok tt)) c.wide_refusal.ensures c.in_ok-wide_refusal.was in
    (keys_counted a.start a.end fs fe w c.key_count-count.ensures c.range_keys-keys.ensures).0

pub slice_bounds-create-end : goal.slice_bounds-create-end
slice_bounds-create-end c =
    let a = c.args in
    let fs = c.ranges.start.sfits in
    let fe = c.ranges.end.sfits in
    let w = passes a.start a.end fs fe (λ x y. wide_refusal x y (Ok tt)) c.wide_refusal.ensures c.in_ok-wide_refusal.was in
    (keys_counted a.start a.end fs fe w c.key_count-count.ensures c.range_keys-keys.ensures).1

pub slice_bounds-words-end : goal.slice_bounds-words-end
slice_bounds-words-end c =
    let a = c.args in
    let fs = c.ranges.start.sfits in
    let fe = c.ranges.end.sfits in
    let w = passes a.start a.end fs fe (λ x y. wide_refusal x y (Ok tt)) c.wide_refusal.ensures c.in_ok-wide_refusal.was in
    let few = count_few a.start a.end fs fe w c.key_count-count.ensures in
    let words = counted_length 0 256 c.key_count-count.result (ramp_colors c.key_count-count.result a.cmap.now) (sym (length-ramp c.key_count-count.result a.cmap.now))
    few c.ramp_colors-words.ensures in
    words.0

pub slice_bounds-create-end-2 : goal.slice_bounds-create-end-2
slice_bounds-create-end-2 c =
    let a = c.args in
    let fs = c.ranges.start.sfits in
    let fe = c.ranges.end.sfits in
    let w = passes a.start a.end fs fe (λ x y. wide_refusal x y (Ok tt)) c.wide_refusal.ensures c.in_ok-wide_refusal.was in
    let few = count_few a.start a.end fs fe w c.key_count-count.ensures in
    let words = counted_length 0 256 c.key_count-count.result (ramp_colors c.key_count-count.result a.cmap.now) (sym (length-ramp c.key_count-count.result a.cmap.now))
    few c.ramp_colors-words.ensures in
    words.1

pub create-requires : goal.create-requires
create-requires c =
    let a = c.args in
    let fs = c.ranges.start.sfits in
    let fe = c.ranges.end.sfits in
    let w = passes a.start a.end fs fe (λ x y. wide_refusal x y (Ok tt)) c.wide_refusal.ensures c.in_ok-wide_refusal.was in
    let few = count_few a.start a.end fs fe w c.key_count-count.ensures in
    let words = counted_length 0 256 c.key_count-count.result (ramp_colors c.key_count-count.result a.cmap.now) (sym (length-ramp c.key_count-count.result a.cmap.now))
    few c.ramp_colors-words.ensures in
    let keys = (keys_counted a.start a.end fs fe w c.key_count-count.ensures c.range_keys-keys.ensures).1 in
    let colors = words.1 in
    (omega arith, omega arith)

pub returns : goal.returns
returns c =
    let a = c.args in
    let fs = c.ranges.start.sfits in
    let fe = c.ranges.end.sfits in
    let w = passes a.start a.end fs fe (λ x y. wide_refusal x y (Ok tt)) c.wide_refusal.ensures c.in_ok-wide_refusal.was in
    let n = whole (range_count a.start a.end) in
    let counted = count-is a.start a.end fs fe w c.key_count-count.ensures in
    built (wide_refusal a.start a.end) (wide_checks a.start a.end) (range_keys a.start a.end) (ramp_colors n a.cmap.now) w
    (counted_keys a.start a.end fs fe w c.key_count-count.ensures c.range_keys-keys.ensures)
    (counted_list 0 256 c.key_count-count.result (ramp_colors n a.cmap.now) (counted ∙ sym (length-ramp n a.cmap.now))
    (c.ramp_colors-words.ensures ∙ ap (λ m. padded 0 256 (ramp_colors m a.cmap.now)) counted))
    c.create.ensures
