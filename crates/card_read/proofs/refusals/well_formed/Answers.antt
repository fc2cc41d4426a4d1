-- The entries, as the match tells the kind. Assumes nothing.
use native.Mathlib.Omega.{arith}
use mathlib.Core.Bool.{true, not}
use mathlib.Core.Path.{◌≡◌, ap}
use Prim.Native.Nat.{◌≤◌}
use borrow.Author.Tests.{not-false}
use lib.ListN.{length}
use Rattle.legend.specs.declared.LegendKind.TheVariants as kind
use Rattle.legend.specs.Record.{kind_numbered}
use Rattle.card_bytes.specs.Numbers.{number_at}
use Rattle.card_layout.specs.Fields.{after_title}
use Rattle.card_read.proofs.Found.{from_on, settings_fit_at, by_entries}
use Rattle.card_read.proofs.refusals.well_formed.Goals as goal

pub returns-in-Linear : goal.returns-in-Linear
returns-in-Linear c =
    let card = c.args.card.now in
    let h : 15 ≤ length (after_title card) = omega (arith, ap length c.after_title-rest.ensures) in
    let s : settings_fit_at (after_title card) ≡ true = cc (not-false _ (ap not c.if-not-settings_fit.false)) in
    let k : kind.Linear ≡ kind_numbered (number_at 5 1 card) = cc in
    cc (by_entries card h kind.Linear k s, from_on 15 c.after_title-rest.ensures)

pub returns-in-Banded : goal.returns-in-Banded
returns-in-Banded c =
    let card = c.args.card.now in
    let h : 15 ≤ length (after_title card) = omega (arith, ap length c.after_title-rest.ensures) in
    let s : settings_fit_at (after_title card) ≡ true = cc (not-false _ (ap not c.if-not-settings_fit.false)) in
    let k : kind.Banded ≡ kind_numbered (number_at 5 1 card) = cc in
    cc (by_entries card h kind.Banded k s, from_on 15 c.after_title-rest.ensures)

pub returns-in-CategoricNumeric : goal.returns-in-CategoricNumeric
returns-in-CategoricNumeric c =
    let card = c.args.card.now in
    let h : 15 ≤ length (after_title card) = omega (arith, ap length c.after_title-rest.ensures) in
    let s : settings_fit_at (after_title card) ≡ true = cc (not-false _ (ap not c.if-not-settings_fit.false)) in
    let k : kind.CategoricNumeric ≡ kind_numbered (number_at 5 1 card) = cc in
    cc (by_entries card h kind.CategoricNumeric k s, from_on 15 c.after_title-rest.ensures)
