-- `categories_fit` meets its contract: the first `count` places of the array hold the keys. Assumes nothing.
use borrow.Author.Tests.{le-leb, lt-leb, eq-eqb, ne_eqb}
use mathlib.Core.Path.{ap, ◌∙◌}
use lib.IntN.{pos}
use lib.ListN.{length-map}
use Rattle.lists.proofs.Padding.{padded_front}
use Rattle.categoric_build.specs.Categories.{Category, keys_of}
use Rattle.card_bytes.specs.Entries.{entries_in}
use Rattle.card_layout.specs.Entries.{category_in}
use Rattle.card_layout.specs.Stored.{keys_in_order}
use Rattle.card_bytes.proofs.Entries.{length-entries_in}
use Rattle.card_read.proofs.refusals.categories_fit.Goals as goal

pub returns-then-count-gt256 : goal.returns-then-count-gt256
returns-then-count-gt256 c = simp (lt-leb _ _ c.if-count-gt256.true)

pub returns-then-entries-count : goal.returns-then-entries-count
returns-then-entries-count c = simp (le-leb _ _ c.if-count-gt256.false, ne_eqb _ _ c.if-entries-count.true)

pub returns : goal.returns
returns c =
    let read = entries_in 12 c.args.count category_in c.args.entries.now in
    let long = length-map read (λ (x : Category). x.key) ∙ length-entries_in 12 c.args.count category_in c.args.entries.now in
    simp (le-leb _ _ c.if-count-gt256.false, eq-eqb _ _ c.if-entries-count.false)
    (c.keys_in_order.ensures ∙ ap keys_in_order (padded_front (pos 0) 256 (keys_of read) c.keys_in-keys.ensures long))
