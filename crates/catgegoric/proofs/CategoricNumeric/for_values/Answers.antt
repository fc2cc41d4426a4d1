-- `CategoricNumeric::for_values` meets its contract: past the checks the record is made of the values and the colours. Assumes nothing.
use Rattle.std.proofs.Common.{sym, refl, ◌∙◌, length, arith}
use lib.IntN.{pos}
use Rattle.catgegoric.specs.Made.{values_refusal}
use Rattle.catgegoric.proofs.Making.{values_checks, values_few, values_match, built, counted_list, counted_length}
use Rattle.catgegoric.proofs.CategoricNumeric.for_values.Goals as goal

pub list_keys-keys-requires : goal.list_keys-keys-requires
list_keys-keys-requires c =
    values_few (length c.args.values.now) (length c.args.colors.now) (sym c.values_refusal.ensures ∙ c.in_ok-values_refusal.was)

pub slice_bounds-keys-end : goal.slice_bounds-keys-end
slice_bounds-keys-end c =
    let v = c.args.values.now in
    let clear = sym c.values_refusal.ensures ∙ c.in_ok-values_refusal.was in
    (counted_length (pos 0) 256 (length v) v refl (values_few (length v) (length c.args.colors.now) clear) c.list_keys-keys.ensures).0

pub slice_bounds-create-end : goal.slice_bounds-create-end
slice_bounds-create-end c =
    let v = c.args.values.now in
    let clear = sym c.values_refusal.ensures ∙ c.in_ok-values_refusal.was in
    (counted_length (pos 0) 256 (length v) v refl (values_few (length v) (length c.args.colors.now) clear) c.list_keys-keys.ensures).1

pub create-requires : goal.create-requires
create-requires c =
    let v = c.args.values.now in
    let w = c.args.colors.now in
    let clear = sym c.values_refusal.ensures ∙ c.in_ok-values_refusal.was in
    let few = values_few (length v) (length w) clear in
    let keys = (counted_length (pos 0) 256 (length v) v refl few c.list_keys-keys.ensures).1 in
    let same = values_match (length v) (length w) clear in
    (omega arith, omega arith)

pub returns : goal.returns
returns c =
    let v = c.args.values.now in
    let w = c.args.colors.now in
    let clear = sym c.values_refusal.ensures ∙ c.in_ok-values_refusal.was in
    built (values_refusal (length v) (length w)) (values_checks (length v) (length w)) v w clear
    (counted_list (pos 0) 256 (length v) v refl c.list_keys-keys.ensures) refl c.create.ensures
