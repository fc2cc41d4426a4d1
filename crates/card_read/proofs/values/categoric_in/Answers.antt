-- `categoric_in` meets its contract: the arrays hold the categories. Assumes nothing.
use mathlib.Core.Path.{sym, ◌∙◌}
use Rattle.categoric_build.specs.forms.Insertion.{HoldsCategories}
use Rattle.catgegoric.proofs.Making.{recorded}
use Rattle.card_bytes.specs.Entries.{entries_in}
use Rattle.card_layout.specs.Entries.{category_in}
use Rattle.card_bytes.proofs.Entries.{length-entries_in}
use Rattle.card_read.proofs.values.categoric_in.Goals as goal

pub returns : goal.returns
returns c =
    let entries = c.args.entries.now in
    let categories = entries_in 12 c.args.count category_in entries in
    let held : HoldsCategories categories c.keys_in-keys.result c.colors_in-colors.result c.args.count = record {
      keys_are = c.keys_in-keys.ensures;
      colors_are = c.colors_in-colors.ensures;
      count-is = sym (length-entries_in 12 c.args.count category_in entries);
    } in
    c.with_lookup.ensures ∙ recorded held
