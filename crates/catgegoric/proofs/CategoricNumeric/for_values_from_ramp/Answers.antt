-- `CategoricNumeric::for_values_from_ramp` meets its contract: past the checks the record is made of the values and their colours. Assumes nothing.
use Rattle.std.proofs.Common.{sym, refl, ◌∙◌, ◌≡◌, ◌≤◌, length, take, arith}
use lib.IntN.{pos}
use Rattle.colormap.specs.Positions.{ramp_colors}
use Rattle.catgegoric.specs.Made.{many_refusal}
use Rattle.catgegoric.proofs.Making.{many_checks, few, built, counted_list, counted_length, length-ramp}
use Rattle.catgegoric.proofs.CategoricNumeric.for_values_from_ramp.Goals as goal
use Rattle.catgegoric.proofs.CategoricNumeric.for_values_from_ramp.Goals.{After-ramp_colors-words}

pub list_keys-keys-requires : goal.list_keys-keys-requires
list_keys-keys-requires c = few (length c.args.values.now) (sym c.many_refusal.ensures ∙ c.in_ok-many_refusal.was)

pub ramp_colors-words-requires : goal.ramp_colors-words-requires
ramp_colors-words-requires c = few (length c.args.values.now) (sym c.many_refusal.ensures ∙ c.in_ok-many_refusal.was)

words_few : (c : After-ramp_colors-words) → length c.args.values.now ≤ 256
words_few c = few (length c.args.values.now) (sym c.many_refusal.ensures ∙ c.in_ok-many_refusal.was)

words_counted : (c : After-ramp_colors-words) → (length c.args.values.now ≤ length c.ramp_colors-words.result)
    × (length c.args.values.now ≡ length (take (length c.args.values.now) c.ramp_colors-words.result))
words_counted c =
    let n = length c.args.values.now in
    counted_length 0 256 n (ramp_colors n c.args.cmap.now) (sym (length-ramp n c.args.cmap.now)) (words_few c) c.ramp_colors-words.ensures

keys_counted : (c : After-ramp_colors-words) → (length c.args.values.now ≤ length c.list_keys-keys.result)
    × (length c.args.values.now ≡ length (take (length c.args.values.now) c.list_keys-keys.result))
keys_counted c = counted_length (pos 0) 256 (length c.args.values.now) c.args.values.now refl (words_few c) c.list_keys-keys.ensures

pub slice_bounds-keys-end : goal.slice_bounds-keys-end
slice_bounds-keys-end c = (keys_counted c).0

pub slice_bounds-create-end : goal.slice_bounds-create-end
slice_bounds-create-end c = (keys_counted c.before).1

pub slice_bounds-words-end : goal.slice_bounds-words-end
slice_bounds-words-end c = (words_counted c.before).0

pub slice_bounds-create-end-2 : goal.slice_bounds-create-end-2
slice_bounds-create-end-2 c = (words_counted c.before.before).1

pub create-requires : goal.create-requires
create-requires c =
    let few = words_few c.before.before in
    let keys = (keys_counted c.before.before).1 in
    let words = (words_counted c.before.before).1 in
    (omega arith, omega arith)

pub returns : goal.returns
returns c =
    let v = c.args.values.now in
    let w = ramp_colors (length v) c.args.cmap.now in
    let clear = sym c.many_refusal.ensures ∙ c.in_ok-many_refusal.was in
    built (many_refusal (length v)) (many_checks (length v)) v w clear (counted_list (pos 0) 256 (length v) v refl c.list_keys-keys.ensures)
    (counted_list 0 256 (length v) w (sym (length-ramp (length v) c.args.cmap.now)) c.ramp_colors-words.ensures) c.create.ensures
