-- `create_for_preset` meets its contract: the colours that a palette counts are there. Assumes nothing.
use Rattle.std.specs.Prelude.{◌≡◌, Ok}
use native.Mathlib.Omega.{arith}
use lib.Seq.{length-take-le}
use mathlib.Core.Path.{sym}
use Rattle.palettes.specs.Asked.{palette_of}
use Rattle.colormap.proofs.Making.{palette_made}
use Rattle.colormap.proofs.create_for_preset.Goals as goal

pub slice_bounds-colors-end : goal.slice_bounds-colors-end
slice_bounds-colors-end c =
    let e : Ok c.in_ok-palette.palette ≡ palette_of c.args.number = cc (c.palette_of.ensures, c.in_ok-palette.was) in (palette_made _ e).1

pub slice_bounds-create-end : goal.slice_bounds-create-end
slice_bounds-create-end c =
    let e : Ok c.in_ok-palette.palette ≡ palette_of c.args.number = cc (c.palette_of.ensures, c.in_ok-palette.was) in
    sym (length-take-le _ _ (palette_made _ e).1)
