-- `palette_color` meets its contract. Assumes nothing.
use lib.ListN.{get_or-eq_default, length, get_or}
use Rattle.palettes.proofs.InTable.{known, in_table, offset_room}
use Rattle.palettes.specs.Palettes.{palette, palette_table}
use native.Mathlib.Omega.{arith}
use Prim.Native.Nat.{◌+◌, ◌<◌}
use mathlib.Core.Path.{sym, ap, ◌∙◌}
use Rattle.palettes.proofs.palette_color.Goals as goal

pub returns-then-index-palette_length : goal.returns-then-index-palette_length
returns-then-index-palette_length c = sym (get_or-eq_default (palette c.args.number) 0 (omega (arith, c.palette_length.ensures)))

pub offset_of-requires : goal.offset_of-requires
offset_of-requires c = known _ c.args.index (omega (arith, c.palette_length.ensures))

pub overflow_add-offset_of : goal.overflow_add-offset_of
overflow_add-offset_of c =
    omega (
      arith,
      c.offset_of.ensures,
      c.palette_length.ensures,
      offset_room c.args.number
          (known _ c.args.index (omega (arith, c.palette_length.ensures))),
    )

pub table_color-requires : goal.table_color-requires
table_color-requires c =
    omega (
      arith,
      c.offset_of.ensures,
      c.palette_length.ensures,
      offset_room c.args.number
          (known _ c.args.index (omega (arith, c.palette_length.ensures))),
    )

pub returns : goal.returns
returns c =
    let l : c.args.index < length (palette c.args.number) = omega
    (arith, c.palette_length.ensures) in c.table_color.ensures
    ∙ ap (λ k. get_or palette_table (k + c.args.index) 0) c.offset_of.ensures ∙ in_table _ (known _ _ l) _ l
