-- `table_color` meets its contract. Assumes nothing.
use mathlib.Core.List.{flatten}
use mathlib.Core.Path.{refl}
use Rattle.palettes.specs.Palettes.{palettes, palette_table}
use Rattle.palettes.proofs.table_color.Goals as goal

pub returns : goal.returns
unfolding palettes palette_table flatten
returns c = refl
