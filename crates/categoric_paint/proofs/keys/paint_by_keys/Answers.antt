-- `paint_by_keys` meets its contract. Assumes nothing.
use borrow.Author.Rules.{rules}
use mathlib.Core.Path.{sym, ◌∙◌}
use Rattle.categoric_paint.proofs.Searching.{searched-is}
use Rattle.categoric_paint.proofs.keys.paint_by_keys.Goals as goal

pub narrowed-narrow-requires : goal.narrowed-narrow-requires
narrowed-narrow-requires c = (search rules, sym c.searchable-search.ensures ∙ c.if-search.true)

pub returns-then-search : goal.returns-then-search
returns-then-search c =
    c.paint_by_search.ensures ∙ searched-is c.args.keys.colors.now c.args.p c.args.src.now c.narrowed-narrow.ensures
