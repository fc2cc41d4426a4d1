-- `ramp_colors` meets its contract. Assumes nothing.
use mathlib.Core.Path.{ap₂, sym, refl, ap, ◌∙◌}
use borrow.Author.Rules.{rules}
use native.Mathlib.Omega.{arith}
use lib.Ieee.{of_bits, binary32, add}
use Rattle.lists.proofs.Padding.{storing_start, storing_turn, storing_end}
use Rattle.colormap.specs.Positions.{position as at, ramp_colors}
use Rattle.lookup.specs.Entries.{plain_entry, entry_color}
use native.Mathlib.Numerals.{add-one}
use Rattle.colormap.proofs.ramp_colors.Goals as goal

pub loop-i-init : goal.loop-i-init
unfolding of_bits at
loop-i-init c = (refl, search rules, storing_start)

pub loop-i-preserved : goal.loop-i-preserved
unfolding at
loop-i-preserved c = (
  ap₂ (add binary32) c.loop-i.invariant.0 c.color_step-step.ensures
      ∙ sym (ap (at c.args.count) (add-one c.loop-i.i)),
  search rules,
  storing_turn
      c.loop-i.invariant.2 (omega arith) (search rules)
      (c.get_color.ensures ∙ ap (λ f. entry_color c.args.cmap.now (plain_entry f)) c.loop-i.invariant.0),
)

pub returns : goal.returns
unfolding ramp_colors
returns c = storing_end c.loop-i.invariant.2 (omega arith)
