use lib.ListN.{get_or}
use Rattle.lists.proofs.Padding.{Storing}
use lib.Ieee.{nan}
use Rattle.lookup.specs.Entries.{plain_entry, entry_color}
use Rattle.lookup.proofs.get_colors.Given as goal

abbrev pub invariant-loop-i : goal.invariant-loop-i
invariant-loop-i l = Storing 0 (λ k. entry_color l.cmap (plain_entry (get_or l.fraction k nan))) 16 16 l.i l.result
