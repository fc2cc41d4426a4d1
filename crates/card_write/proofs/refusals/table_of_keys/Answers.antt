-- `table_of_keys` meets its contract. Assumes nothing.
use borrow.Author.Rules.{rules}
use native.Mathlib.Omega.{arith}
use mathlib.Core.Path.{sym, ap, ◌∙◌}
use lib.ListN.{take}
use Rattle.catgegoric.specs.declared.CategoricNumeric.{CategoricNumeric}
use Rattle.categoric_build.proofs.Tables.{size_few}
use Rattle.card_write.proofs.Comparing.{size_differs, words_compared}
use Rattle.card_write.proofs.refusals.table_of_keys.Goals as goal

pub returns-then-categoric-made : goal.returns-then-categoric-made
returns-then-categoric-made c =
    size_differs c.args.categoric (λ e. c.if-categoric-made.true (e ∙ sym (ap (λ (r : CategoricNumeric). r.lookup_count) c.with_lookup-made.ensures)))

pub same_words-requires : goal.same_words-requires
same_words-requires c =
    let keys = take c.args.categoric.count c.args.categoric.keys in
    let size = ap (λ (r : CategoricNumeric). r.lookup_count) c.with_lookup-made.ensures in
    (omega (arith, size, size_few keys), search rules, search rules)

pub returns : goal.returns
returns c =
    c.same_words.ensures
    ∙ words_compared c.args.categoric c.if-categoric-made.false (ap (λ (r : CategoricNumeric). r.lookup_count) c.with_lookup-made.ensures)
    (ap (λ (r : CategoricNumeric). r.lookup) c.with_lookup-made.ensures)
