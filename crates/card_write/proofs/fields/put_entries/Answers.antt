-- The counted part of an array is as long as the count. Assumes nothing.
use borrow.Author.Rules.{rules}
use native.Mathlib.Omega.{arith}
use mathlib.Core.Path.{◌≡◌, sym}
use lib.ListN.{length}
use lib.Seq.{length-take-le}
use Rattle.card_write.proofs.Lengths.{stored_categories}
use Rattle.legend.proofs.Stored.{bands-stored}
use Rattle.card_write.proofs.fields.put_entries.Goals as goal

pub slice_bounds-put_bands-end : goal.slice_bounds-put_bands-end
slice_bounds-put_bands-end c =
    let l = c.args.legend in
    let long : length l.banded.bands ≡ 64 = search rules in
    sym (length-take-le l.banded.count l.banded.bands (omega (arith, long, bands-stored l c.requires.0 c.in-Banded.is)))

pub slice_bounds-put_categories-end : goal.slice_bounds-put_categories-end
slice_bounds-put_categories-end c =
    let l = c.args.legend in
    let long : length l.categoric.keys ≡ 256 = search rules in
    sym (length-take-le l.categoric.count l.categoric.keys (omega (arith, long, stored_categories l c.requires.0 c.in-CategoricNumeric.is)))

pub slice_bounds-put_categories-end-in-CategoricNumeric : goal.slice_bounds-put_categories-end-in-CategoricNumeric
slice_bounds-put_categories-end-in-CategoricNumeric c =
    let l = c.args.legend in
    let long : length l.categoric.colors ≡ 256 = search rules in
    sym (length-take-le l.categoric.count l.categoric.colors (omega (arith, long, stored_categories l c.requires.0 c.in-CategoricNumeric.is)))
