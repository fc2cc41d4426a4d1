-- `bounds_refusal` meets its contract. Assumes nothing.
use borrow.Author.Tests.{ne_eqb}
use native.Mathlib.Omega.{arith}
use mathlib.Core.Path.{sym, ap, ◌∙◌}
use lib.Dec.{eqb}
use Rattle.words.specs.Values.{float_of}
use Rattle.card_read.proofs.Told.{title_told}
use Rattle.card_read.proofs.Bounds.{no_bounds, linear-long, linear-bounds}
use Rattle.card_read.proofs.refusals.bounds_refusal.Goals as goal

pub u8_at-requires : goal.u8_at-requires
u8_at-requires c = omega (arith, title_told c.args.card.now c.requires)

pub returns-then-u8_at-ne0 : goal.returns-then-u8_at-ne0
returns-then-u8_at-ne0 c =
    no_bounds c.args.card.now (sym (ap (λ n. eqb n 0) c.u8_at.ensures) ∙ ne_eqb _ _ c.if-u8_at-ne0.true)

pub u32_at-requires : goal.u32_at-requires
u32_at-requires c = omega (
  arith,
  (let u = c in
      let s = u in
      linear-long s.args.card.now (sym u.u8_at.ensures ∙ c.if-u8_at-ne0.false) c.after_title-rest.ensures s.requires),
)

pub u32_at-requires-2 : goal.u32_at-requires-2
u32_at-requires-2 c = omega (
  arith,
  (let u = c in
      let s = u in
      linear-long s.args.card.now (sym u.u8_at.ensures ∙ c.if-u8_at-ne0.false) c.after_title-rest.ensures s.requires),
)

pub returns : goal.returns
returns c =
    c.range_refusal.ensures
    ∙ linear-bounds c.args.card.now (sym c.u8_at.ensures ∙ c.if-u8_at-ne0.false) c.after_title-rest.ensures
    (c.float.ensures ∙ ap float_of c.u32_at.ensures) (c.float-2.ensures ∙ ap float_of c.u32_at-2.ensures)
