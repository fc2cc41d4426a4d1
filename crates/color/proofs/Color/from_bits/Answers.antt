-- `Color::from_bits` meets its contract: its four fields are `color_of`'s. Assumes nothing.
use mathlib.Core.Path.{refl}
use Rattle.color.specs.Word.{color_of}
use Rattle.color.proofs.Color.from_bits.Goals as goal

pub returns : goal.returns
unfolding color_of
returns c = refl
