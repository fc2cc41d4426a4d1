-- The counts of a stored legend of its kind are within capacity. Assumes nothing.
use mathlib.Core.Path.{refl}
use Rattle.legend.proofs.Stored.{bands-stored, categories-stored}
use Rattle.legend_view.specs.Borrowed.{borrowed_legend}
use Rattle.legend_paint.proofs.paint.Goals as goal

pub paint_banded-requires : goal.paint_banded-requires
paint_banded-requires c = (bands-stored (borrowed_legend c.args.view) c.requires.0 c.in-Banded.is, refl, c.requires.1)

pub invariant_of-keys : goal.invariant_of-keys
invariant_of-keys c = record { capacity = (categories-stored (borrowed_legend c.args.view) c.requires.0 c.in-CategoricNumeric.is).0 }

pub invariant_of-table : goal.invariant_of-table
invariant_of-table c = record { capacity = (categories-stored (borrowed_legend c.args.view) c.requires.0 c.in-CategoricNumeric.is).1 }
