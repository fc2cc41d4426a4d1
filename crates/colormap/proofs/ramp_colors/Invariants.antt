use mathlib.Core.Path.{◌≡◌}
use lib.ListN.{length}
use Rattle.lists.proofs.Padding.{Storing}
use Rattle.colormap.specs.Positions.{position as at}
use Rattle.lookup.specs.Entries.{plain_entry, entry_color}
use Rattle.colormap.proofs.ramp_colors.Given as goal

abbrev pub invariant-loop-i : goal.invariant-loop-i
invariant-loop-i l =
    (l.position ≡ at l.count l.i) × (length l.colors ≡ 256) × Storing 0 (λ k. entry_color l.cmap (plain_entry (at l.count k))) 256 l.count l.i l.colors
