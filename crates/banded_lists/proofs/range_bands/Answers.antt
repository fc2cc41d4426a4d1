-- `range_bands` meets its contract. Assumes nothing.
use mathlib.Core.Path.{◌≡◌, ap, ◌∙◌}
use native.Mathlib.Omega.{arith}
use lib.ListN.{length}
use borrow.Author.Rules.{rules}
use Rattle.lists.proofs.Padding.{storing_turn, storing_end}
use Rattle.banded_lists.specs.Padded.{padded_bands}
use Rattle.banded_lists.proofs.Storing.{no_bands-stored}
use Rattle.banded_lists.proofs.Manual.{range-bands, range_length}
use Rattle.banded_lists.proofs.Past.{no_range}
use Rattle.banded_lists.proofs.range_bands.Goals as goal

pub loop-i-init : goal.loop-i-init
loop-i-init c = (search rules, no_bands-stored c.no_bands-bands.ensures)

pub loop-i-preserved : goal.loop-i-preserved
loop-i-preserved c = (search rules, storing_turn c.loop-i.invariant.1 (omega arith) (search rules) c.band_of.ensures)

pub returns : goal.returns
returns c =
    let ranges = c.args.ranges.now in
    let long : length c.args.colors ≡ 256 = search rules in (
      storing_end c.loop-i.invariant.1 (omega arith) ∙ ap padded_bands (range-bands no_range ranges c.args.colors (omega arith)),
      range_length ranges c.args.colors (omega arith),
    )
