-- `Color::from_hex_string` meets its contract: past the test of the form the pairs that it reads are there. Assumes nothing.
use mathlib.Core.Path.{sym, ◌∙◌}
use native.Mathlib.Omega.{arith}
use borrow.Author.Tests.{not-true}
use Rattle.color.proofs.Form.{formed, three_pairs, four_pairs, of_empty, of_formless, of_read, short_alpha, long_alpha}
use mathlib.Core.Path.{ap}
use mathlib.Core.Bool.{not}
use Rattle.color.proofs.Color.from_hex_string.Goals as goal

pub returns-then-text-eq0 : goal.returns-then-text-eq0
returns-then-text-eq0 c = sym (of_empty _ c.if-text-eq0.true)

pub returns-then-not-hex_form : goal.returns-then-not-hex_form
returns-then-not-hex_form c =
    sym
    (of_formless _ c.if-text-eq0.false
    (sym c.hex_form.ensures ∙ not-true _ (ap not c.if-not-hex_form.true)))

pub pair_at-r-requires : goal.pair_at-r-requires
pair_at-r-requires c = omega (arith, three_pairs _ (formed _ c.hex_form.ensures (ap not c.if-not-hex_form.false)))

pub pair_at-g-requires : goal.pair_at-g-requires
pair_at-g-requires c =
    let p = c
    in omega (arith, three_pairs _ (formed _ p.hex_form.ensures (ap not p.if-not-hex_form.false)))

pub pair_at-b-requires : goal.pair_at-b-requires
pair_at-b-requires c =
    let p = c
    in omega (arith, three_pairs _ (formed _ p.hex_form.ensures (ap not p.if-not-hex_form.false)))

pub returns-then-text-eq7 : goal.returns-then-text-eq7
returns-then-text-eq7 c =
    let s4 = c in
    let s5 = s4 in
    let p = s5
    in of_read _ (formed _ p.hex_form.ensures (ap not p.if-not-hex_form.false)) c.of_pairs.ensures c.pair_at-r.ensures
    c.pair_at-g.ensures c.pair_at-b.ensures (sym (short_alpha _ c.if-text-eq7.true))

pub pair_at-a-requires : goal.pair_at-a-requires
pair_at-a-requires c =
    let p = c
    in omega (arith, four_pairs _ (formed _ p.hex_form.ensures (ap not p.if-not-hex_form.false)) c.if-text-eq7.false)

pub returns : goal.returns
returns c =
    let s4 = c in
    let s5 = s4 in
    let s6 = s5 in
    let p = s6
    in of_read _ (formed _ p.hex_form.ensures (ap not p.if-not-hex_form.false)) c.of_pairs-2.ensures s5.pair_at-r.ensures
    c.pair_at-g.ensures c.pair_at-b.ensures
    (c.pair_at-a.ensures ∙ sym (long_alpha _ c.if-text-eq7.false))
