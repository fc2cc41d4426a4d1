-- `spread_at` meets its contract. Assumes nothing.
use Rattle.color.specs.Word.{word_of}
use borrow.Author.Tests.{eq-eqb, ne_eqb}
use Rattle.colormap.specs.Spread.{blend, spread_at}
use Rattle.colormap.proofs.Places.{product_fits, place_lt, next_lt}
use native.Mathlib.Omega.{arith}
use mathlib.Core.Path.{ap, ◌∙◌}
use Prim.Native.Nat.{◌*◌, ◌-◌, ◌%◌}
use lib.ListN.{length}
use borrow.Author.Rules.{rules}
use Rattle.colormap.proofs.spread_at.Goals as goal

pub overflow_mul-t : goal.overflow_mul-t
overflow_mul-t c = omega (arith, product_fits c.args.i (length c.args.colors.now) (search rules) (search rules) (search rules))

pub offset_bounds-colors-k : goal.offset_bounds-colors-k
offset_bounds-colors-k c = omega (arith, place_lt c.args.i (length c.args.colors.now) (search rules) (search rules) (search rules))

pub bounds-colors-k : goal.bounds-colors-k
bounds-colors-k c = place_lt _ _ (search rules) (search rules) (search rules)

pub returns-then-r-eq0 : goal.returns-then-r-eq0
unfolding spread_at
returns-then-r-eq0 c = simp (eq-eqb _ _ c.if-r-eq0.true)

pub overflow_add-next : goal.overflow_add-next
overflow_add-next c = omega (arith, place_lt c.args.i (length c.args.colors.now) (search rules) (search rules) (search rules))

pub offset_bounds-colors-k-2 : goal.offset_bounds-colors-k-2
offset_bounds-colors-k-2 c =
    omega (arith, place_lt c.args.i (length c.args.colors.now) (search rules) (search rules) (search rules))

pub bounds-colors-k-2 : goal.bounds-colors-k-2
bounds-colors-k-2 c = place_lt _ _ (search rules) (search rules) (search rules)

pub offset_bounds-colors-next : goal.offset_bounds-colors-next
offset_bounds-colors-next c =
    omega (
      arith,
      place_lt c.args.i (length c.args.colors.now) (search rules)
          (search rules) (search rules),
    )

pub bounds-colors-next : goal.bounds-colors-next
bounds-colors-next c = next_lt _ _ (search rules) (search rules) (search rules) (omega arith)

pub returns : goal.returns
unfolding spread_at
returns c =
    let s4 = c in
    let s6 = s4 in
    let s8 = s6 in
    let a = s8.args in
    simp (ne_eqb _ _ s6.if-r-eq0.false)
    (c.to_bits.ensures ∙ ap word_of
    (c.blended.ensures
    ∙ (λ j. blend (a.i * (length a.colors.now - 1) % 255) (c.from_bits.ensures j)
    (c.from_bits-2.ensures j))))
