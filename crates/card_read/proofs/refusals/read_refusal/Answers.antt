-- `read_refusal` meets its contract. Assumes nothing.
use borrow.Author.Tests.{not-false}
use mathlib.Core.Path.{sym, ◌∙◌}
use Rattle.card_layout.specs.Refusals.{read_refusal}
use mathlib.Core.Path.{ap}
use mathlib.Core.Bool.{not}
use Rattle.card_read.proofs.refusals.read_refusal.Goals as goal

pub returns-then-not-known : goal.returns-then-not-known
unfolding read_refusal
returns-then-not-known c = simp (← c.known.ensures, (ap not c.if-not-known.true))

pub returns-then-not-well_formed : goal.returns-then-not-well_formed
unfolding read_refusal
returns-then-not-well_formed c =
    simp (← c.known.ensures, (ap not c.if-not-known.false), ← c.well_formed-2.ensures, (ap not c.if-not-well_formed.true))

pub bounds_refusal-requires : goal.bounds_refusal-requires
bounds_refusal-requires c = sym c.well_formed-2.ensures ∙ not-false _ (ap not c.if-not-well_formed.false)

pub returns : goal.returns
unfolding read_refusal
returns c =
    simp (← c.known.ensures, (ap not c.if-not-known.false), ← c.well_formed-2.ensures, (ap not c.if-not-well_formed.false)) c.bounds_refusal.ensures
