-- `key_color` meets its contract. Assumes nothing.
use borrow.Author.Rules.{rules}
use mathlib.Core.Path.{sym, ◌∙◌}
use Rattle.categoric_keys.proofs.Rules.{by_key, by_no_key}
use Rattle.categoric_keys.proofs.Keys.key_color.Goals as goal

pub returns-in-Some : goal.returns-in-Some
returns-in-Some c =
    let k = c.args.self in
    by_key k.keys.now k.colors.now k.count c.args.nodata c.args.value _ (search rules) (sym c.to_i64.ensures ∙ c.in-Some.is) c.scan.ensures

pub returns-in-None : goal.returns-in-None
returns-in-None c =
    let k = c.args.self in
    by_no_key k.keys.now k.colors.now k.count c.args.nodata c.args.value (sym c.to_i64.ensures ∙ c.in-None.is)
