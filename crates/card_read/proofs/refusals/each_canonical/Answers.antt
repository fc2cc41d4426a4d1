-- Where one entry fails. Assumes nothing.
use mathlib.Core.Path.{sym, ap, ◌∙◌}
use mathlib.Core.Bool.{not}
use borrow.Author.Tests.{not-true}
use Rattle.card_layout.specs.Entries.{bounds_canonical}
use Rattle.card_read.proofs.Testing.{one_refused}
use Rattle.card_read.proofs.refusals.each_canonical.Goals as goal

pub returns-then-not-bounds_canonical : goal.returns-then-not-bounds_canonical
returns-then-not-bounds_canonical c =
    sym (one_refused bounds_canonical 12 (λ entry. entry) c.args.entries.now c.args.count c.loop-i.i c.loop-i-test.true
    (sym c.bounds_canonical.ensures ∙ not-true _ (ap not c.if-not-bounds_canonical.true)))
